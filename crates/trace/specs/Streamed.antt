-- A reader that knows the start of a file from what it read first, and takes the rest in parts, prints what the file means. Assumes nothing.
use Rattle.std.specs.Prelude.{◌≡◌, refl, List, [], ◌∷◌, ◌++◌, Bool, true, false, cond, ℕ, drop}
use Rattle.std.proofs.Common.{ap, ◌∙◌, arith}
use Rattle.std.proofs.lemmas.List.{drop-append-le}
use Rattle.refusal.specs.Answers.{given, refusal_of, passes}
use Rattle.trace.specs.Trace.{call_start, replay_of, reason_text, course_text}
use Rattle.trace.specs.AcceptedStart.{accepted_start, start_within}
use Rattle.trace.specs.Windows.{Window, joined, windowed, Allowed, windows_theorem, at_once, at_once_allowed, all_of, at_once-joined}
use Rattle.trace.specs.StartBytes.{Enough, start_early}

-- a reader that knows the start from what it read first, and prints the rows behind it and of what it reads then
unfoldable pub streamed : List ℕ → List Window → List ℕ
streamed first ws =
    let b = given (call_start first) in
    cond (passes (refusal_of (call_start first))) (windowed b.course (drop b.at first) ws) (reason_text (refusal_of (call_start first)))

-- and prints what the file means
pub streamed_theorem : (first : List ℕ) (ws : List Window) → Enough first (joined ws)
    → (passes (refusal_of (call_start first)) ≡ true → Allowed (given (call_start first)).course (drop (given (call_start first)).at first) ws)
    → streamed first ws ≡ replay_of (first ++ joined ws)
unfolding streamed replay_of
streamed_theorem first ws enough allowed = rw (← start_early first (joined ws) enough) (go (passes (refusal_of (call_start first))) refl)
  where
    go : (t : Bool) → passes (refusal_of (call_start first)) ≡ t
        → cond (passes (refusal_of (call_start first))) (windowed (given (call_start first)).course (drop (given (call_start first)).at first) ws) (reason_text (refusal_of (call_start first)))
        ≡ cond (passes (refusal_of (call_start first))) (course_text (given (call_start first)).course (drop (given (call_start first)).at (first ++ joined ws))) (reason_text (refusal_of (call_start first)))
    go false e = rw e
    go true e =
        rw (e, drop-append-le (given (call_start first)).at first (joined ws) (start_within first (accepted_start first e)))
        (windows_theorem ws (given (call_start first)).course (drop (given (call_start first)).at first) (allowed e))

-- such a reader's windows where it prints all the rows it holds, first those behind the start
abbrev pub plainly : List ℕ → List (List ℕ) → List Window
plainly first parts = at_once (given (call_start first)).course (drop (given (call_start first)).at first) ([] ∷ parts)

pub plainly_theorem : (first : List ℕ) (parts : List (List ℕ)) → Enough first (all_of parts) → streamed first (plainly first parts) ≡ replay_of (first ++ all_of parts)
unfolding all_of
plainly_theorem first parts enough =
    let same : joined (plainly first parts) ≡ all_of parts = at_once-joined ([] ∷ parts) (given (call_start first)).course (drop (given (call_start first)).at first) in
    streamed_theorem first (plainly first parts) (rw same enough)
    (λ (e : passes (refusal_of (call_start first)) ≡ true).
    at_once_allowed ([] ∷ parts) (given (call_start first)).course (drop (given (call_start first)).at first) (λ (z : [] ∷ parts ≡ []). absurd (nothing z)))
    ∙ ap (λ (l : List ℕ). replay_of (first ++ l)) same
  where
    nothing : ◌≡◌ {A = List (List ℕ)} ([] ∷ parts) [] → ⊥
    nothing z = let y : ◌≡◌ {A = ℕ} 0 1 = cc in omega arith
