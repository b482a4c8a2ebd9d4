-- What a seam step leaves in the links.
-- Assumes nothing.
use Rattle.std.specs.Prelude.{List, ℕ}
use Rattle.closure.specs.Joined.{joins}
use Rattle.union_find.specs.Links.{root, Rooted}
use Rattle.pass_seam.specs.Walks.{layer_edges}
use Rattle.judge.specs.declared.Entry.{Entry}
use Rattle.judge_seam.specs.declared.Shared.{Shared}

-- The links of faces and curves after the layers were joined.
pub record Linked (faces faces' curves curves' : List ℕ) (s : Shared) (d g : Entry) (entries entries' : ℕ) (m n : List ℕ) : Type 0 where
  pub of_faces : Rooted faces faces' (joins (root faces) (layer_edges m s.lower n s.upper 1 d.face_from g.face_from entries s.columns s.rows))
  pub of_curves : Rooted curves curves' (joins (root curves) (layer_edges m s.lower n s.upper 2 d.curve_from g.curve_from entries' s.columns s.rows))
