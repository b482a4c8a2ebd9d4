-- The cells around another one, with their rows.
-- Assumes nothing.
use Rattle.std.specs.Prelude.{List, map, ℕ}
use Rattle.pass_join.specs.declared.Neighbour.{Neighbour}

-- Their positions, and their rows.
abbrev pub positions : List Neighbour → List ℕ
positions ns = map (λ n. n.at) ns

abbrev pub rows_of : List Neighbour → List (List ℕ)
rows_of ns = map (λ n. n.row) ns
