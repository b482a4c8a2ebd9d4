-- The keys that the cells of a line, and of all lines, leave.
-- Assumes nothing.
use mathlib.Core.Path.{◌≡◌, refl, sym, ap, ap₂, ◌∙◌}
use mathlib.Core.Bool.{true, cond}
use mathlib.Core.Logic.{◌≢◌}
use mathlib.Core.List.{List, [], ◌∷◌, ◌++◌, Memᴰ}
use Prim.Native.Nat.{ℕ, suc, ◌+◌, ◌-◌, ◌*◌, ◌/◌, ◌%◌, ◌≤◌, ◌<◌}
use native.Mathlib.Omega.{arith}
use lib.Dec.{eqb}
use lib.ListN.{get_or, length, set}
use borrow.Author.Tests.{eqb-true, eqb-false, eq-eqb, ne_eqb}
use Rattle.lists.specs.Lists.{keep, overlay}
use Rattle.lists.proofs.Cases.{by_test}
use Rattle.lists.proofs.Overlay.{overlay_same, overlay_at, overlay_again}
use Rattle.cells.specs.Box.{triple, coord, each, index, place}
use Rattle.cells.specs.declared.Triple.{Triple}
use Rattle.cells.specs.Extents.{Sized}
use Rattle.cells.specs.Grid.{sides, cells, order}
use Rattle.labels.specs.Components.{of_order, largest, component}
use Rattle.labels.proofs.ComponentLaws.{of_order_out}
use Rattle.labels.proofs.CountLaws.{largest_bound}
use Rattle.lines.specs.Lines.{line_count, line_y, line_z, LineAt}
use Rattle.lines.specs.declared.Line.{Line}
use Rattle.lines.proofs.LineLaws.{Tests, order_tests}
use Rattle.lines.proofs.WalkLaws.{rest_of, walk_inside, walk_order, cell_within, cell_walks, cell_first, cell_next, cell_last}
use Rattle.cutting.specs.Cutting.{Cutting, blocks, good_cut, embed, most_blocks}
use Rattle.joiner.specs.Job.{Kind, order_of, key_of, key_position}
use Rattle.joiner.specs.Outcomes.{first_of, enrolled_key}
use Rattle.joiner.proofs.Keys.{key_first}
use Rattle.blocks.specs.Blocks.{size_of, Tells, shift_in, embed_in}
use Rattle.blocks.specs.declared.Block.{Block}
use Rattle.blocks.proofs.BlockLaws.{told_sized, told_ends}
use Rattle.pass_survey.specs.Survey.{on_line}
use Rattle.pass_survey.proofs.SurveyLaws.{from_line, from_first, from_next, from_last}
use Rattle.pass_enrol.specs.EnrolledRows.{Lies, Along, position_in, first_in, key_in, key_put, keyed, FirstKeys}
use Rattle.pass_enrol.proofs.PlaceLaws.{position_line, position_high}

-- ---- the keys of a list of cells

module _ (v : Triple) (r : Block) (b : ℕ) (m : List ℕ) (from : ℕ) where
  abbrev still_left : List ℕ → List ℕ → List ℕ
  still_left = keyed v r b m from

  keyed_append : (ps qs t : List ℕ) → still_left (ps ++ qs) t ≡ still_left ps (still_left qs t)
  unfolding keyed
  keyed_append [] qs t = refl
  keyed_append (p ∷ ps) qs t = ap (key_put from (get_or m p 0) (key_of (position_in v r p) b)) (keyed_append ps qs t)

  -- the key of number n among the cells of a list
  among_key : List ℕ → ℕ → ℕ
  among_key ps n = key_of (first_in v r (keep (λ p. eqb (get_or m p 0) n) ps)) b

  keyed_overlay : (xs : List ℕ) (count : ℕ) (ps : List ℕ) → ((p : ℕ) → Memᴰ p ps → get_or m p 0 ≤ count)
      → still_left ps (overlay xs from (λ i. b) count) ≡ overlay xs from (λ i. among_key ps (suc i)) count
  unfolding keyed key_put among_key first_in key_of
  keyed_overlay xs count [] h = overlay_same xs from (λ i. b) (λ i. key_of 0 b) count (λ i l. omega arith)
  keyed_overlay xs count (p ∷ ps) h =
      let n : ℕ = get_or m p 0 in
      let key : ℕ = key_of (position_in v r p) b in
      let ih = keyed_overlay xs count ps (λ q k. h q (Memᴰ.tail k)) in
      let low : n ≤ count = h p (Memᴰ.head refl) in
      by_test (eqb n 0)
      (λ t.
      let z : n ≡ 0 = eqb-true n 0 t in
      rw t (ih ∙ overlay_same xs from (λ i. among_key ps (suc i)) (λ i. among_key (p ∷ ps) (suc i)) count (λ i l. let d : n ≢ suc i = λ q. omega arith in rw (ne_eqb n (suc i) d))))
      (λ t.
      let z : n ≢ 0 = eqb-false n 0 t in
      rw t
      (ap (λ (l : List ℕ). set l (from + (n - 1)) key) ih
      ∙ overlay_again xs from (λ i. among_key ps (suc i)) key count (n - 1) (omega arith)
      ∙ overlay_same xs from (λ i. cond (eqb i (n - 1)) key (among_key ps (suc i))) (λ i. among_key (p ∷ ps) (suc i)) count
      (λ i l. by_test (eqb i (n - 1))
      (λ u. let s : n ≡ suc i = omega (arith, eqb-true i (n - 1) u) in rw (u, eq-eqb n (suc i) s))
      (λ u. let d : i ≢ n - 1 = eqb-false i (n - 1) u in let s : n ≢ suc i = λ q. d (omega arith) in rw (u, ne_eqb n (suc i) s)))))

  -- ---- line after line, from the last one

  module _ (j : ℕ) where
    abbrev e : Triple
    e = size_of r

    pub lines_start : (l : ℕ) (t : List ℕ) → line_count e ≤ l → t ≡ still_left (from_line e j l) t
    unfolding keyed
    lines_start l t h = rw (from_last e j l h)

    pub lines_next : (l : ℕ) (t₀ t u : List ℕ) → l < line_count e → t ≡ still_left (from_line e j (l + 1)) t₀ → u ≡ still_left (on_line e j l) t → u ≡ still_left (from_line e j l) t₀
    lines_next l t₀ t u k i c =
        c ∙ ap (still_left (on_line e j l)) i ∙ sym (ap (λ (ps : List ℕ). still_left ps t₀) (from_next e j l k) ∙ keyed_append (on_line e j l) (from_line e j (l + 1)) t₀)

    pub lines_end : (count : ℕ) (xs t₀ t : List ℕ) → count ≡ largest e m j → t₀ ≡ overlay xs from (λ i. b) count → t ≡ still_left (from_line e j 0) t₀
        → t ≡ overlay xs from (λ i. key_in v r b m j (suc i)) count
    unfolding key_in component among_key
    lines_end count xs t₀ t k i c =
        let high : (p : ℕ) → Memᴰ p (of_order e j) → get_or m p 0 ≤ count =
        λ p d. let o = of_order_out e j d in rw (k, ← o.1) (largest_bound e m p o.0) in
        c ∙ ap₂ still_left (from_first e j) i ∙ keyed_overlay xs count (of_order e j) high

-- ---- the cells of order j on line l

-- The cell at x, and where it stands in the volume.
pub record Here (v : Triple) (r : Block) (j : ℕ) (line : Line) (x at : ℕ) : Type 0 where
  pub within : line.base + x < cells (size_of r)
  pub level : order (size_of r) (line.base + x) ≡ j
  pub position : at + x ≡ position_in v r (line.base + x)
  pub high : at + x < 8589934592

pub along_line : {v : Triple} {r : Block} {m : List ℕ} {j l : ℕ} {line : Line} {at : ℕ} → Lies v r → length m ≡ cells (size_of r) → j ≤ 2 → l < line_count (size_of r) → LineAt (size_of r) (3 - j) l line
    → at ≡ embed_in v r (triple 0 (l % (2 * r.size.y - 1)) (l / (2 * r.size.y - 1))) → Along v r m j l line at
unfolding sides
along_line z n h i t e = record { lies = z; size = n; below = h; on = i; told = t; begins = e }

module _ {v : Triple} {r : Block} {m : List ℕ} {j l : ℕ} {line : Line} {at : ℕ} (A : Along v r m j l line at) where
  abbrev extents_here : Triple
  extents_here = size_of r

  along_tests : Tests (λ c. eqb (order extents_here c) j) (l * (sides extents_here).x) (sides extents_here).x (3 - j) (line_y extents_here l + line_z extents_here l)
  along_tests = order_tests extents_here j l (omega (arith, A.below))

  module _ {k : ℕ} (h : k < line.count) where
    abbrev x : ℕ
    x = line.start + 2 * k

    pub along_here : Here v r j line x at
    along_here =
        let L = A.told in
        let g : x < line.width = cell_within L h in
        let i = walk_inside L x g A.on in
        let s : at + x ≡ position_in v r (line.base + x) = rw L.base (ap (λ (n : ℕ). n + x) A.begins ∙ position_line v r l x (omega (arith, L.width))) in
        record { within = i; level = walk_order L x g (cell_walks L k) ∙ omega (arith, A.below); position = s; high = omega (arith, position_high A.lies (line.base + x) i) }

    pub along_number : get_or m (line.base + x) 0 ≤ largest extents_here m j
    along_number = rw (← along_here.level) (largest_bound extents_here m (line.base + x) along_here.within)

  module _ (b from : ℕ) (t₀ : List ℕ) where
    -- what the cells from the k-th on leave
    abbrev behind : ℕ → List ℕ
    behind k = keyed v r b m from (rest_of (λ c. eqb (order extents_here c) j) line k) t₀

    pub keys_none : (k : ℕ) → line.count ≤ k → t₀ ≡ behind k
    unfolding keyed
    keys_none k h = rw (cell_last A.told along_tests h)

    pub keys_next : (k : ℕ) (t u : List ℕ) (key : ℕ) → k < line.count → t ≡ behind (k + 1) → key ≡ key_of (at + (line.start + 2 * k)) b
        → u ≡ key_put from (get_or m (line.base + (line.start + 2 * k)) 0) key t → u ≡ behind k
    unfolding keyed
    keys_next k t u key h i q c = rw (cell_next A.told along_tests h, ← i, ← (along_here h).position, ← q) c

    pub keys_all : (t : List ℕ) → t ≡ behind 0 → t ≡ keyed v r b m from (on_line extents_here j l) t₀
    unfolding on_line
    keys_all t i = i ∙ ap (λ (ps : List ℕ). keyed v r b m from ps t₀) (sym (cell_first A.told along_tests))

-- ---- the joiner's keys

module _ (k : Cutting) (b : ℕ) (r : Block) (T : Tells k b r) where
  -- what the stores require of the block
  pub lies_told : good_cut k ≡ true → b < blocks k → Sized 1024 k.extents → Lies k.extents r
  lies_told good h s = record { sized = told_sized k b r T good h; whole = s; ends = told_ends k b r T good h }

  first_told : (ps : List ℕ) → first_in k.extents r ps ≡ first_of k b ps
  unfolding first_in first_of position_in embed_in shift_in embed
  first_told [] = refl
  first_told (p ∷ ps) = ap₂ {C = ℕ} (λ (o e : Triple). index (sides k.extents) (each (λ a. 2 * coord o a + coord (place (sides e) p) a))) T.first T.size

  pub enrolled_key_lem : (m : List ℕ) (κ : Kind) (n : ℕ) → key_in k.extents r b m (order_of κ) n ≡ enrolled_key k b m κ n
  unfolding key_in enrolled_key
  enrolled_key_lem m κ n =
      ap (λ (p : ℕ). key_of p b) (first_told (component (size_of r) m (order_of κ) n) ∙ ap (λ (e : Triple). first_of k b (component e m (order_of κ) n)) T.size)

  -- what `store_keys` leaves
  pub enrolled_keys : (m : List ℕ) (κ : Kind) (from count : ℕ) (xs ks : List ℕ) → ks ≡ overlay xs from (λ i. key_in k.extents r b m (order_of κ) (suc i)) count → ks ≡ overlay xs from (λ i. enrolled_key k b m κ (suc i)) count
  enrolled_keys m κ from count xs ks e = e ∙ overlay_same xs from _ _ count (λ i _. enrolled_key_lem m κ (suc i))

-- what `store_rows` requires of the keys, where `store_keys` left them
pub stored_first_keys : (v : Triple) (r : Block) (b : ℕ) (m : List ℕ) (j from count : ℕ) (xs ks : List ℕ) → b < most_blocks → from + count ≤ length ks → length ks ≡ length xs
    → ks ≡ overlay xs from (λ i. key_in v r b m j (suc i)) count → FirstKeys v r m j ks from count
unfolding key_in
stored_first_keys v r b m j from count xs ks h l s e = record {
  room = l;
  at = λ i k. ap (λ (t : List ℕ). key_position (get_or t (from + i) 0)) e
      ∙ ap key_position (overlay_at xs from (λ i. key_in v r b m j (suc i)) count i k (omega arith))
      ∙ key_first (first_in v r (component (size_of r) m j (suc i))) b h;
}
