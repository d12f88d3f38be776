-- What the two setters do: the coefficients are those of a new notch, the history stays. Assumes nothing.
use Rattle.std.specs.Prelude.{◌≡◌, refl, Float}
use Rattle.notch.specs.declared.biquad.BiquadFilter.{BiquadFilter}
use Rattle.notch.specs.declared.notch_filter.NotchFilter.{NotchFilter}
use Rattle.notch.specs.Biquad.{new_biquad, with_params}
use Rattle.notch.specs.NotchFilter.{new_notch_filter, retuned, set_freq_center_notch_filter, set_freq_bandwidth_notch_filter}

-- the same samples in and out
pub record SameHistory (a b : BiquadFilter) : Type 0 where
  pub in_samples : (a.x0 ≡ b.x0) × (a.x1 ≡ b.x1) × (a.x2 ≡ b.x2)
  pub out_samples : (a.y0 ≡ b.y0) × (a.y1 ≡ b.y1) × (a.y2 ≡ b.y2)

-- r is s with another centre, bandwidth and t
pub record Retuned (s r : NotchFilter) (fc fb t : Float) : Type 0 where
  pub stored : (r.fc ≡ fc) × (r.fb ≡ fb) × (r.dt ≡ s.dt) × (r.t ≡ t)
  pub params : r.biquad.params ≡ (new_notch_filter fc fb s.dt t).biquad.params
  pub history : SameHistory r.biquad s.biquad

-- whatever numbers it is given
retuned_is : (s : NotchFilter) (fc fb t : Float) → Retuned s (retuned s fc fb t) fc fb t
unfolding new_notch_filter new_biquad retuned with_params
retuned_is s fc fb t =
    record {
      stored = (refl, refl, refl, refl);
      params = refl;
      history = record { in_samples = (refl, refl, refl); out_samples = (refl, refl, refl) };
    }

module _ (s : NotchFilter) where
  -- a new centre comes with its t, at the stored bandwidth
  pub center_retunes : (fc t : Float) → Retuned s (set_freq_center_notch_filter s fc t) fc s.fb t
  unfolding set_freq_center_notch_filter
  center_retunes fc t = retuned_is s fc s.fb t

  -- a new bandwidth uses the stored t, at the stored centre
  pub bandwidth_retunes : (fb : Float) → Retuned s (set_freq_bandwidth_notch_filter s fb) s.fc fb s.t
  unfolding set_freq_bandwidth_notch_filter
  bandwidth_retunes fb = retuned_is s s.fc fb s.t
