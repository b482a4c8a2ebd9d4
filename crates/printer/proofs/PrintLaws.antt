-- Whether a map has a listing, and the ways of `print_listing`.
-- Assumes nothing.
use mathlib.Core.Path.{◌≡◌, sym, ap, ◌∙◌}
use mathlib.Core.Bool.{Bool, true, false, not, ◌&&◌, ◌||◌}
use mathlib.Core.List.{List, [], ◌∷◌, ◌++◌, append_assoc}
use Prim.Native.Nat.{ℕ, zero, suc, ◌+◌, ◌-◌, ◌*◌, ◌≤◌, ◌<◌}
use native.Mathlib.Nat.{min-le_left}
use native.Mathlib.Omega.{arith}
use lib.Dec.{eqb, ltb}
use lib.ListN.{length, take, drop, take-append-drop}
use lib.Seq.{drop-drop}
use borrow.Author.Tests.{eqb-true, eq-eqb, ltb-false, not-true}
use Rattle.lists.specs.Lists.{consecutive, zeros}
use Rattle.lists.proofs.Cases.{picked, neither, and_first, and_second}
use Rattle.cells.specs.declared.Triple.{Triple}
use Rattle.cells.specs.Extents.{off_size}
use Rattle.cells.specs.Grid.{cells}
use Rattle.cells.specs.Row.{row}
use Rattle.extents.proofs.SizeLaws.{sized_of}
use Rattle.labels.specs.Components.{largest, first_cell, component_row}
use Rattle.text.specs.Listing.{spaced, letter, width, coordinates, line, lines_for, lines_of, heading, listing, refused_line}
use Rattle.text_tray.specs.Sunk.{State, begun, sunk, fitting, part}
use Rattle.printer.specs.Printing.{too_many, has_listing, Outcome, outcome, listed, printing, Ready}
use Rattle.text_tray.proofs.SinkLaws.{sunk_none, sunk_then, sunk_more, sunk_whole}
use Rattle.printer.proofs.TextLaws.{lines_more}
use Rattle.pass_first.proofs.MarkLaws.{row_first}

-- ---- numbers above the cells

each_order : (e : Triple) (m : List ℕ) (j : ℕ) → j ≤ 2 → largest e m 2 ≤ cells e → largest e m 1 ≤ cells e → largest e m 0 ≤ cells e → largest e m j ≤ cells e
each_order e m zero h f c p = p
each_order e m (suc zero) h f c p = c
each_order e m (suc (suc zero)) h f c p = f
each_order e m (suc (suc (suc j))) h f c p = absurd (omega arith)

-- ---- whether there is a listing

module _ (e : Triple) (m : List ℕ) (f : ℕ) where
  pub by_numbers : off_size 8 e ≡ false → length m ≡ cells e → f ≡ cells e → (t : Bool) → t ≡ too_many e m → not t ≡ has_listing e m f
  unfolding has_listing
  by_numbers o k j t q = rw (o, eq-eqb _ _ k, eq-eqb _ _ j, q)

  -- What holds where there is one.
  pub ready_of : has_listing e m f ≡ true → Ready e m f
  unfolding has_listing too_many
  ready_of h =
      let o = not (off_size 8 e) in
      let k = eqb (length m) (cells e) in
      let j = eqb f (cells e) in
      let a = ltb (cells e) (largest e m 2) in
      let b = ltb (cells e) (largest e m 1) in
      let c = ltb (cells e) (largest e m 0) in
      let g = and_second o (k && (j && not (a || (b || c)))) h in
      let i = and_second k (j && not (a || (b || c))) g in
      let s = neither a (b || c) (not-true (a || (b || c)) (and_second j (not (a || (b || c))) i)) in
      let t = neither b c s.1 in
      record {
        sized = sized_of 8 e (not-true (off_size 8 e) (and_first o (k && (j && not (a || (b || c)))) h));
        whole = eqb-true _ _ (and_first k (j && not (a || (b || c))) g);
        room = eqb-true _ _ (and_first j (not (a || (b || c))) i);
        counts = λ j h. each_order e m j h (ltb-false _ _ s.0) (ltb-false _ _ t.0) (ltb-false _ _ t.1);
      }

-- ---- texts put piece by piece

-- the words of the heading and of a refusal
abbrev faces_word : List ℕ
faces_word = 102 ∷ 97 ∷ 99 ∷ 101 ∷ 115 ∷ []

abbrev curves_word : List ℕ
curves_word = 32 ∷ 99 ∷ 117 ∷ 114 ∷ 118 ∷ 101 ∷ 115 ∷ []

abbrev points_word : List ℕ
points_word = 32 ∷ 112 ∷ 111 ∷ 105 ∷ 110 ∷ 116 ∷ 115 ∷ []

abbrev refused_word : List ℕ
refused_word = 114 ∷ 101 ∷ 102 ∷ 117 ∷ 115 ∷ 101 ∷ 100 ∷ []

by_twos : (a b c d f g h : List ℕ) → a ++ b ++ c ++ d ++ f ++ g ++ h ≡ (a ++ b) ++ (c ++ d) ++ (f ++ g) ++ h
by_twos a b c d f g h = simp append_assoc

module _ (e : Triple) (m : List ℕ) where
  pub line_put : (j n p l : ℕ) (r : List ℕ) (s a b c d u : State) → p ≡ first_cell e m j n → r ≡ row e m p → l ≡ letter j
      → a ≡ sunk s (l ∷ []) → b ≡ sunk a (spaced (n ∷ [])) → c ≡ sunk b (spaced (coordinates e p)) → d ≡ sunk c (spaced (take (6 - 2 * j) r)) → u ≡ sunk d (10 ∷ []) → u ≡ sunk s (line e m j n)
  unfolding line width
  line_put j n p l r s a b c d u f g h q₁ q₂ q₃ q₄ q₅ =
      let w : r ≡ component_row e m j n = g ∙ ap (row e m) f ∙ row_first e m j n in
      rw (← h, ← f, ← w) (sunk_then s d u _ _ (sunk_then s c d _ _ (sunk_then s b c _ _ (sunk_then s a b _ _ q₁ q₂) q₃) q₄) q₅)

  -- the lines up to number i
  pub lines_none : (j : ℕ) (s : State) → s ≡ sunk s (lines_for e m j (consecutive 1 0))
  unfolding lines_for consecutive
  lines_none j s = sunk_none s

  pub lines_next : (j i : ℕ) (s t u : State) → t ≡ sunk s (lines_for e m j (consecutive 1 i)) → u ≡ sunk t (line e m j (i + 1)) → u ≡ sunk s (lines_for e m j (consecutive 1 (i + 1)))
  lines_next j i s t u p q = sunk_more s t u _ _ p q _ (lines_more e m j i)

  pub lines_all : (j i n : ℕ) (s t : State) → i ≤ n → n ≤ i → t ≡ sunk s (lines_for e m j (consecutive 1 i)) → t ≡ sunk s (lines_for e m j (consecutive 1 n))
  lines_all j i n s t h g p = let q : i ≡ n = omega arith in rw q at p

  pub order_put : (j n : ℕ) (s t : State) → n ≡ largest e m j → t ≡ sunk s (lines_for e m j (consecutive 1 n)) → t ≡ sunk s (lines_of e m j)
  unfolding lines_of
  order_put j n s t q p = rw q at p

  pub heading_put : (f c p : ℕ) (s t u v w : State) → f ≡ largest e m 2 → c ≡ largest e m 1 → p ≡ largest e m 0
      → t ≡ sunk s (faces_word ++ spaced (f ∷ []))
      → u ≡ sunk t (curves_word ++ spaced (c ∷ []))
      → v ≡ sunk u (points_word ++ spaced (p ∷ [])) → w ≡ sunk v (10 ∷ []) → w ≡ sunk s (heading e m)
  unfolding heading
  heading_put f c p s t u v w a b d q₁ q₂ q₃ q₄ =
      rw (← a, ← b, ← d) (sunk_more s v w _ _ (sunk_then s u v _ _ (sunk_then s t u _ _ q₁ q₂) q₃) q₄ _ (by_twos faces_word (spaced (f ∷ [])) curves_word (spaced (c ∷ [])) points_word (spaced (p ∷ [])) (10 ∷ [])))

  pub listing_put : (s t a b u : State) → t ≡ sunk s (heading e m) → a ≡ sunk t (lines_of e m 2) → b ≡ sunk a (lines_of e m 1) → u ≡ sunk b (lines_of e m 0) → u ≡ sunk s (listing e m)
  unfolding listing
  listing_put s t a b u q₁ q₂ q₃ q₄ = sunk_then s b u _ _ (sunk_then s a b _ _ (sunk_then s t a _ _ q₁ q₂) q₃) q₄

-- x is what the caller's tray holds in the end
pub refusal_put : (n k : ℕ) (o x : List ℕ) (t u : State) → x ≡ u.tray → t ≡ sunk (record { skip = k; at = 0; tray = o }) (refused_word ++ spaced (n ∷ [])) → u ≡ sunk t (10 ∷ [])
    → (u.at ≡ fitting k (refused_line n) (length o)) × (x ≡ part k (refused_line n) o)
unfolding refused_line
refusal_put n k o x t u e p q = let w = sunk_whole (refused_line n) o k u (sunk_then _ t u _ _ p q) in (w.0, e ∙ w.1)

-- ---- the ways of `print_listing`

module _ (e : Triple) (m f : List ℕ) (from : ℕ) (t : List ℕ) (b : Bool) (h : b ≡ has_listing e m (length f)) where
  pub print_none : b ≡ false → outcome 0 f t ≡ printing e m f from t
  unfolding printing
  print_none z = rw (sym h ∙ z)

  -- x is what the caller's tray holds in the end
  pub print_listed : (g x : List ℕ) (u : State) → b ≡ true → g ≡ zeros (cells e) → x ≡ u.tray
      → u ≡ sunk (begun from t) (listing e m) → outcome u.at g x ≡ printing e m f from t
  unfolding printing listed
  print_listed g x u z c i d =
      let r = (ready_of e m (length f) (sym h ∙ z)).room in
      let w = sunk_whole (listing e m) t from u d in
      rw (sym h ∙ z, i, w.0, w.1, c, r)

-- A caller has no more bytes than its tray holds.
pub fitting_within : (from : ℕ) (text : List ℕ) (tray : ℕ) → fitting from text tray ≤ tray
unfolding fitting
fitting_within from text tray = min-le_left tray _

pub printed_within : (e : Triple) (m f : List ℕ) (from : ℕ) (t : List ℕ) (o : Outcome) → o ≡ printing e m f from t → o.put ≤ length t
unfolding printing listed
printed_within e m f from t o p =
    rw p (picked (λ (q : Outcome). q.put ≤ length t) (has_listing e m (length f)) _ _ (λ _. fitting_within from (listing e m) (length t)) (λ _. omega arith))

-- The parts that a caller asks for one after the other join to the text, and 0 bytes come only after its end.
pub parts_join : (from : ℕ) (text : List ℕ) (tray : ℕ) → take (fitting from text tray) (drop from text) ++ drop (from + fitting from text tray) text ≡ drop from text
parts_join from text tray =
    ap (λ (l : List ℕ). take (fitting from text tray) (drop from text) ++ l) (sym (drop-drop (fitting from text tray) from text)) ∙ take-append-drop (fitting from text tray) (drop from text)

pub parts_end : (from : ℕ) (text : List ℕ) (tray : ℕ) → 0 < tray → fitting from text tray ≡ 0 → length text ≤ from
unfolding fitting
parts_end from text tray h z = omega arith
