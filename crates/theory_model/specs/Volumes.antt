-- Volumes cut and joined: what the closed tables are to hold, worked out by another program from the uncut volume.
-- Assumes nothing.
use Rattle.std.specs.Prelude.{List, [], ◌∷◌, ℕ}
use Rattle.cells.specs.Box.{triple}
use Rattle.cutting.specs.Cutting.{Cutting}
use Rattle.joiner.specs.Job.{Face, Curve, Point, Closed, Told}
use Rattle.theory_model.specs.Scripts.{Outcome}

pub record Example : Type 0 where
  pub told : Told
  pub codes : List ℕ
  pub listed : Outcome

-- A cutting, and the entries of each table: as many as are enrolled or found, "a full table that is just reached".
abbrev pub told : Cutting → ℕ → ℕ → ℕ → Told
told k f c p = record { cutting = k; entries = elim [ Face ↦ f | Curve ↦ c | Point ↦ p ] }

-- "3×1×1, codes 1 2 1, cut 0 1 2: both blocks have a face 1; the volume has faces 1 and 2."
unfoldable pub line : Example
line =
    record {
      told = told (record { extents = triple 3 1 1; cx = 0 ∷ 1 ∷ 2 ∷ []; cy = 0 ∷ []; cz = 0 ∷ [] }) 2 0 0;
      codes = 1 ∷ 2 ∷ 1 ∷ [];
      listed = record {
        stage = Closed;
        faces = record { many = 2; firsts = 1 ∷ 3 ∷ []; rows = 1 ∷ 2 ∷ 1 ∷ 2 ∷ [] };
        curves = record { many = 0; firsts = []; rows = [] };
        points = record { many = 0; firsts = []; rows = [] };
      };
    }

-- "2×3×1, left column 1, right column 2, y cut 0 1 2: one face."
unfoldable pub columns : Example
columns =
    record {
      told = told (record { extents = triple 2 3 1; cx = 0 ∷ 1 ∷ []; cy = 0 ∷ 1 ∷ 2 ∷ []; cz = 0 ∷ [] }) 2 0 0;
      codes = 1 ∷ 2 ∷ 1 ∷ 2 ∷ 1 ∷ 2 ∷ [];
      listed = record {
        stage = Closed;
        faces = record { many = 1; firsts = 1 ∷ []; rows = 1 ∷ 2 ∷ [] };
        curves = record { many = 0; firsts = []; rows = [] };
        points = record { many = 0; firsts = []; rows = [] };
      };
    }

-- 3×2×2, codes 1 to 12, cut 0 1 2: each block has a point of its own.
unfoldable pub slab : Example
slab =
    record {
      told = told (record { extents = triple 3 2 2; cx = 0 ∷ 1 ∷ 2 ∷ []; cy = 0 ∷ 1 ∷ []; cz = 0 ∷ 1 ∷ [] }) 24 12 2;
      codes = 1 ∷ 2 ∷ 3 ∷ 4 ∷ 5 ∷ 6 ∷ 7 ∷ 8 ∷ 9 ∷ 10 ∷ 11 ∷ 12 ∷ [];
      listed = record {
        stage = Closed;
        faces = record {
          many = 20;
          firsts = 1 ∷ 3 ∷ 5 ∷ 7 ∷ 9 ∷ 11 ∷ 13 ∷ 15 ∷ 17 ∷ 19 ∷ 25 ∷ 27 ∷ 29 ∷ 31 ∷ 33 ∷ 35 ∷ 37 ∷ 39 ∷ 41 ∷ 43 ∷ [];
          rows =
              1 ∷ 2 ∷ 2 ∷ 3 ∷ 1 ∷ 4 ∷ 2 ∷ 5 ∷ 3 ∷ 6 ∷ 4 ∷ 5 ∷ 5 ∷ 6 ∷ 1 ∷ 7 ∷ 2 ∷ 8 ∷ 3 ∷ 9 ∷ 4 ∷ 10 ∷ 5 ∷ 11 ∷
              6 ∷ 12 ∷ 7 ∷ 8 ∷ 8 ∷ 9 ∷ 7 ∷ 10 ∷ 8 ∷ 11 ∷ 9 ∷ 12 ∷ 10 ∷ 11 ∷ 11 ∷ 12 ∷ [];
        };
        curves = record {
          many = 11;
          firsts = 6 ∷ 8 ∷ 16 ∷ 18 ∷ 20 ∷ 22 ∷ 24 ∷ 26 ∷ 28 ∷ 36 ∷ 38 ∷ [];
          rows =
              1 ∷ 3 ∷ 4 ∷ 6 ∷ 2 ∷ 4 ∷ 5 ∷ 7 ∷ 1 ∷ 8 ∷ 9 ∷ 14 ∷ 2 ∷ 9 ∷ 10 ∷ 15 ∷ 3 ∷ 8 ∷ 11 ∷ 16 ∷ 4 ∷ 9 ∷ 12 ∷ 17 ∷
              5 ∷ 10 ∷ 13 ∷ 18 ∷ 6 ∷ 11 ∷ 12 ∷ 19 ∷ 7 ∷ 12 ∷ 13 ∷ 20 ∷ 14 ∷ 16 ∷ 17 ∷ 19 ∷ 15 ∷ 17 ∷ 18 ∷ 20 ∷ [];
        };
        points = record { many = 2; firsts = 21 ∷ 23 ∷ []; rows = 1 ∷ 3 ∷ 5 ∷ 6 ∷ 8 ∷ 10 ∷ 2 ∷ 4 ∷ 6 ∷ 7 ∷ 9 ∷ 11 ∷ [] };
      };
    }
