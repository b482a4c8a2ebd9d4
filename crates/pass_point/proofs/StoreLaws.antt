-- Points stored one after the other.
-- Assumes nothing.
use mathlib.Core.Path.{◌≡◌, refl, sym, ap, ap₂, ◌∙◌}
use mathlib.Core.Logic.{◌≢◌}
use mathlib.Core.List.{List, [], ◌∷◌, ◌++◌}
use Prim.Native.Nat.{ℕ, suc, ◌+◌, ◌*◌, ◌/◌, ◌%◌, ◌≤◌, ◌<◌}
use native.Mathlib.Nat.{add-zero}
use native.Mathlib.Omega.{arith}
use lib.ListN.{get_or, length, set}
use Rattle.lists.specs.Lists.{overlay}
use Rattle.lists.proofs.Overlay.{length-overlay, overlay_same, rows_none, rows_next}
use Rattle.cells.specs.declared.Triple.{Triple}
use Rattle.joiner.specs.Job.{key_of, key_base}
use Rattle.blocks.specs.Blocks.{size_of}
use Rattle.blocks.specs.declared.Block.{Block}
use Rattle.pass_survey.proofs.SurveyLaws.{from_line}
use Rattle.pass_enrol.specs.EnrolledRows.{position_in}
use Rattle.pass_point.specs.FoundPoints.{found_row, found_among, found_cells, row_entry, key_at, written, Stored, Room}
use Rattle.pass_point.proofs.PointLaws.{found_append, found_none, found_length, cell_none, cell_one, found_all}

-- ---- entries for the cells of a list

module _ (w : ℕ) (f : ℕ → ℕ → ℕ) where
  length-written : (ps : List ℕ) (at : ℕ) (xs : List ℕ) → length (written w f ps at xs) ≡ length xs
  unfolding written
  length-written [] at xs = refl
  length-written (p ∷ ps) at xs = length-written ps (suc at) (overlay xs (w * at) (f p) w) ∙ length-overlay xs (w * at) (f p) w

  written_append : (ps qs : List ℕ) (at : ℕ) (xs : List ℕ) → written w f (ps ++ qs) at xs ≡ written w f qs (at + length ps) (written w f ps at xs)
  unfolding written
  written_append [] qs at xs = rw (add-zero at)
  written_append (p ∷ ps) qs at xs =
      let s : suc at + length ps ≡ at + suc (length ps) = omega arith in
      written_append ps qs (suc at) (overlay xs (w * at) (f p) w) ∙ ap (λ (n : ℕ). written w f qs n (written w f ps (suc at) (overlay xs (w * at) (f p) w))) s

  -- those of the whole list g, of which ps are left from n on, written after the first n
  written_from : (g ps : List ℕ) (at n : ℕ) (xs ys : List ℕ) → ((i : ℕ) → get_or ps i 0 ≡ get_or g (n + i) 0) → ys ≡ overlay xs (w * at) (λ i. f (get_or g (i / w) 0) (i % w)) (w * n)
      → written w f ps (at + n) ys ≡ overlay xs (w * at) (λ i. f (get_or g (i / w) 0) (i % w)) (w * (n + length ps))
  unfolding written
  written_from g [] at n xs ys same e = rw (add-zero n) e
  written_from g (p ∷ ps) at n xs ys same e =
      let s : suc (at + n) ≡ at + (n + 1) = omega arith in
      let t : n + 1 + length ps ≡ n + suc (length ps) = omega arith in
      let here : p ≡ get_or g n 0 = same 0 ∙ ap (λ (i : ℕ). get_or g i 0) (add-zero n) in
      let later : (i : ℕ) → get_or ps i 0 ≡ get_or g (n + 1 + i) 0 = λ i. same (suc i) ∙ ap (λ (j : ℕ). get_or g j 0) (omega arith) in
      ap (λ (k : ℕ). written w f ps k (overlay ys (w * (at + n)) (f p) w)) s
      ∙ written_from g ps at (n + 1) xs (overlay ys (w * (at + n)) (f p) w) later (rows_next xs w at (λ j i. f (get_or g j 0) i) n (f p) ys _ e refl (λ i _. ap (λ (q : ℕ). f q i) here))
      ∙ ap (λ (k : ℕ). overlay xs (w * at) (λ i. f (get_or g (i / w) 0) (i % w)) (w * k)) t

  pub written_overlay : (ps : List ℕ) (at : ℕ) (xs : List ℕ) → written w f ps at xs ≡ overlay xs (w * at) (λ i. f (get_or ps (i / w) 0) (i % w)) (w * length ps)
  written_overlay ps at xs =
      ap (λ (k : ℕ). written w f ps k xs) (sym (add-zero at))
      ∙ written_from ps ps at 0 xs xs (λ i. ap (λ (j : ℕ). get_or ps j 0) (omega arith)) (rows_none xs w at (λ i. f (get_or ps (i / w) 0) (i % w)))
      ∙ ap (λ (k : ℕ). overlay xs (w * at) (λ i. f (get_or ps (i / w) 0) (i % w)) (w * k)) (omega arith)

-- ---- points

-- a point has room
pub room_one : (e : Triple) (numbers : List ℕ) (from : ℕ) (m : List ℕ) (p at k l : ℕ) (row : List ℕ) → row ≡ found_row e numbers from m p → get_or row 0 0 ≢ 0 → Room (length (found_among e numbers from m (p ∷ []))) at k l → (at < k) × (6 * at + 6 ≤ l)
room_one e numbers from m p at k l row is z R = let n = ap length (cell_one e numbers from m p row is z) in (omega (arith, R.on_keys), omega (arith, R.on_rows))

module _ (v : Triple) (r : Block) (b : ℕ) (m numbers : List ℕ) (from : ℕ) where
  abbrev found : List ℕ → List ℕ
  found = found_among (size_of r) numbers from m

  -- one cell, whose row is given
  module _ (p at : ℕ) (keys rows row : List ℕ) (is : row ≡ found_row (size_of r) numbers from m p) where
    pub store_none : get_or row 0 0 ≡ 0 → Stored v r b m numbers from (p ∷ []) at keys rows keys rows at
    unfolding written
    store_none z = let n = cell_none (size_of r) numbers from m p row is z in record { next = omega (arith, ap length n); keys_are = rw n; rows_are = rw n }

    pub store_one : get_or row 0 0 ≢ 0 → (position : ℕ) (rows' : List ℕ) → position ≡ position_in v r p → rows' ≡ overlay rows (6 * at) (λ i. get_or row i 0) 6
        → Stored v r b m numbers from (p ∷ []) at keys rows (set keys at (position * key_base + b)) rows' (at + 1)
    unfolding written overlay key_at key_of row_entry
    store_one z position rows' i e =
        let n = cell_one (size_of r) numbers from m p row is z in
        let s : 1 * at + 0 ≡ at = omega arith in
        record { next = rw n; keys_are = rw (n, ← i, s); rows_are = rw (n, ← is) e }

  -- what is left to be stored: the points among qs, from place n on in keys' and rows'
  pub record Left (ps : List ℕ) (at : ℕ) (keys rows qs : List ℕ) (n : ℕ) (keys' rows' : List ℕ) : Type 0 where
    pub reaches : n + length (found qs) ≡ at + length (found ps)
    pub keys_left : written 1 (key_at v r b) (found qs) n keys' ≡ written 1 (key_at v r b) (found ps) at keys
    pub rows_left : written 6 (row_entry r numbers from m) (found qs) n rows' ≡ written 6 (row_entry r numbers from m) (found ps) at rows
    pub keys_long : length keys' ≡ length keys
    pub rows_long : length rows' ≡ length rows

  module _ (ps : List ℕ) (at : ℕ) (keys rows : List ℕ) where
    pub left_all : (qs : List ℕ) → ps ≡ qs → Left ps at keys rows qs at keys rows
    left_all qs e = rw (← e) (record { reaches = refl; keys_left = refl; rows_left = refl; keys_long = refl; rows_long = refl })

    module _ (qs : List ℕ) (n : ℕ) (keys' rows' : List ℕ) (L : Left ps at keys rows qs n keys' rows') where
      pub left_none : qs ≡ [] → Stored v r b m numbers from ps at keys rows keys' rows' n
      unfolding written
      left_none e =
          let z : found qs ≡ [] = ap found e ∙ found_none (size_of r) numbers from m in
          record {
            next = omega (arith, L.reaches, ap length z);
            keys_are = ap (λ (l : List ℕ). written 1 (key_at v r b) l n keys') (sym z) ∙ L.keys_left;
            rows_are = ap (λ (l : List ℕ). written 6 (row_entry r numbers from m) l n rows') (sym z) ∙ L.rows_left;
          }

      module _ (cs ds : List ℕ) (split : qs ≡ cs ++ ds) where
        found_both : found qs ≡ found cs ++ found ds
        found_both = ap found split ∙ found_append (size_of r) numbers from m cs ds

        many : length (found qs) ≡ length (found cs) + length (found ds)
        many = ap (λ (l : List ℕ). length (found l)) split ∙ found_length (size_of r) numbers from m cs ds

        -- what is stored next has room
        pub left_room : Room (length (found ps)) at (length keys) (length rows) → Room (length (found cs)) n (length keys') (length rows')
        left_room R = record {
          on_keys = omega (arith, R.on_keys, many, L.reaches, L.keys_long);
          on_rows = omega (arith, R.on_rows, many, L.reaches, L.rows_long);
        }

        pub left_next : (keys'' rows'' : List ℕ) (k : ℕ) → Stored v r b m numbers from cs n keys' rows' keys'' rows'' k → Left ps at keys rows ds k keys'' rows''
        left_next keys'' rows'' k S = record {
          reaches = omega (arith, S.next, many, L.reaches);
          keys_left = ap₂ (written 1 (key_at v r b) (found ds)) S.next S.keys_are
              ∙ sym (ap (λ (l : List ℕ). written 1 (key_at v r b) l n keys') found_both ∙ written_append 1 (key_at v r b) (found cs) (found ds) n keys')
              ∙ L.keys_left;
          rows_left = ap₂ (written 6 (row_entry r numbers from m) (found ds)) S.next S.rows_are
              ∙ sym (ap (λ (l : List ℕ). written 6 (row_entry r numbers from m) l n rows') found_both ∙ written_append 6 (row_entry r numbers from m) (found cs) (found ds) n rows')
              ∙ L.rows_left;
          keys_long = ap length S.keys_are ∙ length-written 1 (key_at v r b) (found cs) n keys' ∙ L.keys_long;
          rows_long = ap length S.rows_are ∙ length-written 6 (row_entry r numbers from m) (found cs) n rows' ∙ L.rows_long;
        }

-- ---- all points of a block

pub all_room : (e : Triple) (numbers : List ℕ) (from : ℕ) (m : List ℕ) (at k l : ℕ) → Room (length (found_cells e numbers from m)) at k l → Room (length (found_among e numbers from m (from_line e 0 0))) at k l
all_room e numbers from m at k l R = rw (found_all e numbers from m) R

module _ (v : Triple) (r : Block) (b : ℕ) (m numbers : List ℕ) (from : ℕ) (ps : List ℕ) (all : found_among (size_of r) numbers from m ps ≡ found_cells (size_of r) numbers from m)
    (at : ℕ) (keys rows keys' rows' : List ℕ) (n : ℕ) (S : Stored v r b m numbers from ps at keys rows keys' rows' n) where
  abbrev cells_found : List ℕ
  cells_found = found_cells (size_of r) numbers from m

  pub stored_keys : keys' ≡ overlay keys at (λ i. key_of (position_in v r (get_or cells_found i 0)) b) (length cells_found)
  unfolding key_at
  stored_keys =
      let z : 1 * at ≡ at = omega arith in
      let t : 1 * length cells_found ≡ length cells_found = omega arith in
      let same : overlay keys (1 * at) (λ i. key_of (position_in v r (get_or cells_found (i / 1) 0)) b) (1 * length cells_found) ≡ overlay keys at (λ i. key_of (position_in v r (get_or cells_found i 0)) b) (length cells_found) =
      rw (z, t) (overlay_same keys at _ _ (length cells_found) (λ i _. let o : i / 1 ≡ i = omega arith in rw o)) in
      S.keys_are ∙ ap (λ (l : List ℕ). written 1 (key_at v r b) l at keys) all ∙ written_overlay 1 (key_at v r b) cells_found at keys ∙ same

  pub stored_rows : rows' ≡ overlay rows (6 * at) (λ i. get_or (found_row (size_of r) numbers from m (get_or cells_found (i / 6) 0)) (i % 6) 0) (6 * length cells_found)
  unfolding row_entry
  stored_rows = S.rows_are ∙ ap (λ (l : List ℕ). written 6 (row_entry r numbers from m) l at rows) all ∙ written_overlay 6 (row_entry r numbers from m) cells_found at rows
