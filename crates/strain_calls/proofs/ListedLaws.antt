-- The numbers that the opening and the two calls list, in the order of the table.
-- Assumes nothing.
use mathlib.Core.List.{[], ◌∷◌}
use mathlib.Core.Path.{◌≡◌, refl}
use Rattle.refusals.specs.Refusals.{listed_numbers, number}
use Rattle.joiner.specs.Job.{Told, Tables, State}
use Rattle.strain_calls.specs.Tables.{TotalTables}
use Rattle.strain_calls.specs.Calls.{StrainCall}
use Rattle.strain_calls.specs.Declines.{opening_declines, strain_declines}

pub opening_listed : (o : Told) (t : Tables) (w : TotalTables) → listed_numbers (opening_declines o t w) ≡ 1 ∷ 2 ∷ 6 ∷ []
unfolding listed_numbers opening_declines number
opening_listed o t w = refl

pub strain_listed : (s : State) (w : TotalTables) (c : StrainCall) → listed_numbers (strain_declines s w c) ≡ 1 ∷ 2 ∷ 3 ∷ 4 ∷ 5 ∷ 6 ∷ 8 ∷ 12 ∷ []
unfolding listed_numbers strain_declines number
strain_listed s w c = refl
