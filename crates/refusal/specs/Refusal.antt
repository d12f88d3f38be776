-- The number that document 01's table, or a change request, gives each refusal.
use Rattle.std.specs.Prelude.{ℕ}
use Rattle.refusal.specs.declared.Refusal.{Refusal}
use Rattle.refusal.specs.declared.Refusal.TheVariants.{Range, Tau, Slew, Alpha, Points, Steps, Motor, Lane, Closed, Open, Magic, Header, Kind, Shape, Cut, Rest, RowSum, Window, ShortRun}

abbrev pub number_of : Refusal → ℕ
number_of Range = 1
number_of Tau = 2
number_of Slew = 3
number_of Alpha = 4
number_of Points = 5
number_of Steps = 6
number_of Motor = 7
number_of Lane = 8
number_of Closed = 9
number_of Open = 10
number_of Magic = 11
number_of Header = 12
number_of Kind = 13
number_of Shape = 14
number_of Cut = 15
number_of Rest = 16
number_of RowSum = 17
number_of Window = 18
number_of ShortRun = 25
