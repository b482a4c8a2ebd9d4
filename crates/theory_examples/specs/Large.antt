-- Two volumes that show wrong turns of joining: what the closed tables are to hold, worked out by another program from the uncut volume.
-- Assumes nothing.
use Rattle.std.specs.Prelude.{[], ◌∷◌}
use Rattle.cells.specs.Box.{triple}
use Rattle.joiner.specs.Job.{Closed}
use Rattle.theory_model.specs.Volumes.{Example, told}

-- 4×4×2, all cut, two holes that touch at an edge: the middle block calls its point active, and in the volume it is not.
unfoldable pub rings : Example
rings =
    record {
      told = told (record { extents = triple 4 4 2; cx = 0 ∷ 1 ∷ 2 ∷ 3 ∷ []; cy = 0 ∷ 1 ∷ 2 ∷ 3 ∷ []; cz = 0 ∷ 1 ∷ [] }) 25 10 0;
      codes =
          1 ∷ 1 ∷ 1 ∷ 1 ∷ 1 ∷ 1 ∷ 1 ∷ 1 ∷ 1 ∷ 1 ∷ 1 ∷ 1 ∷ 1 ∷ 1 ∷ 1 ∷ 1 ∷
          2 ∷ 2 ∷ 2 ∷ 2 ∷ 2 ∷ 3 ∷ 2 ∷ 2 ∷ 2 ∷ 2 ∷ 3 ∷ 2 ∷ 2 ∷ 2 ∷ 2 ∷ 2 ∷ [];
      listed = record {
        stage = Closed;
        faces = record { many = 4; firsts = 49 ∷ 65 ∷ 81 ∷ 107 ∷ []; rows = 1 ∷ 2 ∷ 1 ∷ 3 ∷ 1 ∷ 3 ∷ 2 ∷ 3 ∷ [] };
        curves = record { many = 2; firsts = 58 ∷ 74 ∷ []; rows = 1 ∷ 2 ∷ 4 ∷ 0 ∷ 1 ∷ 3 ∷ 4 ∷ 0 ∷ [] };
        points = record { many = 0; firsts = []; rows = [] };
      };
    }

-- 5×3×3, z cut 0 1 2: two curves of the upper block meet at a point cell that is not active, and are one in the volume.
unfoldable pub handle : Example
handle =
    record {
      told = told (record { extents = triple 5 3 3; cx = 0 ∷ 4 ∷ []; cy = 0 ∷ 2 ∷ []; cz = 0 ∷ 1 ∷ 2 ∷ [] }) 5 2 0;
      codes =
          3 ∷ 3 ∷ 3 ∷ 3 ∷ 3 ∷ 3 ∷ 3 ∷ 3 ∷ 3 ∷ 3 ∷ 3 ∷ 3 ∷ 3 ∷ 3 ∷ 3 ∷
          1 ∷ 1 ∷ 1 ∷ 1 ∷ 3 ∷ 1 ∷ 3 ∷ 1 ∷ 1 ∷ 3 ∷ 1 ∷ 1 ∷ 1 ∷ 1 ∷ 3 ∷
          2 ∷ 2 ∷ 2 ∷ 2 ∷ 3 ∷ 2 ∷ 3 ∷ 3 ∷ 2 ∷ 3 ∷ 2 ∷ 2 ∷ 2 ∷ 3 ∷ 3 ∷ [];
      listed = record {
        stage = Closed;
        faces = record { many = 3; firsts = 45 ∷ 135 ∷ 187 ∷ []; rows = 1 ∷ 3 ∷ 1 ∷ 2 ∷ 2 ∷ 3 ∷ [] };
        curves = record { many = 1; firsts = 142 ∷ []; rows = 1 ∷ 2 ∷ 3 ∷ 0 ∷ [] };
        points = record { many = 0; firsts = []; rows = [] };
      };
    }
