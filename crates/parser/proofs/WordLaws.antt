-- The scanner over bytes is a walk over words: what it knows of a word that has not ended, and what an ended word does.
-- Assumes nothing.
use mathlib.Core.Path.{◌≡◌, refl, sym, ap, ap₂, ◌∙◌}
use mathlib.Core.Bool.{Bool, true, false, cond, not, ◌&&◌, and-false}
use mathlib.Core.List.{List, [], ◌∷◌, ◌++◌}
use Prim.Native.Nat.{ℕ, suc, ◌+◌, ◌-◌, ◌*◌, ◌^◌}
use native.Mathlib.Omega.{arith}
use lib.Dec.{eqb, leb, ltb}
use lib.ListN.{length, length-append}
use borrow.Author.Tests.{lt-leb, le-leb, le-ltb, ne_eqb, ltb-true, ltb-false}
use Rattle.lists.proofs.Cases.{by_test, and_second}
use Rattle.text.proofs.SpelledLaws.{value_snoc, digits_snoc}
use Rattle.decimals.specs.Decimals.{digit}
use Rattle.text.specs.Words.{gap, ended, words_from, words_of, all_digits, value_from, spelled, is_number}
use Rattle.parser.specs.Scanning.{Seen, State, state, scanned, begun, capped, spells, longer, counts, counted, lost, grown, stored, closed, step, after}

-- ---- chunks do not matter

pub after_append : (st : State) (a b : List ℕ) → after (after st a) b ≡ after st (a ++ b)
unfolding after
after_append st [] b = refl
after_append st (x ∷ a) b = after_append (step st.seen st.codes x) a b

-- ---- the word that has not ended

-- It may be a number, as far as it has come.
abbrev good : List ℕ → Bool
good w = all_digits w && (leb (length w) 10 && ltb (spelled w) (2 ^ 32))

abbrev size_of : List ℕ → ℕ
size_of w = cond (ltb (length w) 10) (length w) 10

abbrev value_of : List ℕ → ℕ
value_of w = cond (good w) (spelled w) (2 ^ 32)

size_plain : (n m : ℕ) → m ≡ n + 1 → longer (cond (ltb n 10) n 10) ≡ cond (ltb m 10) m 10
unfolding longer
size_plain n m e =
    by_test (ltb n 10)
    (λ t. rw (t, t) (by_test (ltb m 10) (λ u. rw u (sym e)) (λ u. rw u (omega (arith, ltb-true n 10 t, ltb-false m 10 u)))))
    (λ t. rw (t, le-ltb m 10 (omega (arith, ltb-false n 10 t))))

value_plain : (D g : Bool) (n v x : ℕ)
    → cond (g && (ltb (cond (ltb n 10) n 10) 10 && ltb (cond (D && (leb n 10 && ltb v (2 ^ 32))) v (2 ^ 32)) (2 ^ 32)))
    (capped (10 * cond (D && (leb n 10 && ltb v (2 ^ 32))) v (2 ^ 32) + x)) (2 ^ 32)
    ≡ cond ((D && g) && (leb (n + 1) 10 && ltb (10 * v + x) (2 ^ 32))) (10 * v + x) (2 ^ 32)
unfolding capped
value_plain false false n v x = refl
value_plain false true n v x = rw (and-false (ltb (cond (ltb n 10) n 10) 10))
value_plain true false n v x = refl
value_plain true true n v x =
    by_test (ltb n 10)
    (λ t. let h = ltb-true n 10 t in
    let i : leb n 10 ≡ true = le-leb n 10 (omega arith) in
    let j : leb (n + 1) 10 ≡ true = le-leb (n + 1) 10 (omega arith) in
    by_test (ltb v (2 ^ 32))
    (λ u. rw (t, i, j, u, t, u))
    (λ u. rw (t, i, j, u, t, le-ltb (10 * v + x) (2 ^ 32) (omega (arith, ltb-false v (2 ^ 32) u)))))
    (λ t. rw (t, lt-leb (n + 1) 10 (omega (arith, ltb-false n 10 t))))

module _ (w : List ℕ) (b : ℕ) where
  length-snoc : length (w ++ (b ∷ [])) ≡ length w + 1
  length-snoc = length-append w (b ∷ [])

  size_snoc : longer (size_of w) ≡ size_of (w ++ (b ∷ []))
  size_snoc = size_plain (length w) (length (w ++ (b ∷ []))) length-snoc

  value_more : spells (size_of w) (value_of w) b ≡ value_of (w ++ (b ∷ []))
  unfolding spells spelled
  value_more = rw (digits_snoc w b, length-snoc, value_snoc 0 w b) (value_plain (all_digits w) (digit b) (length w) (value_from 0 w) (b - 48))

-- Where the bytes w of a word have come.
abbrev opened : Seen → List ℕ → Seen
opened s w = scanned s.count s.broken (size_of w) (value_of w) s.nx s.ny s.nz

grown_opened : (s : Seen) (w : List ℕ) (b : ℕ) → grown (opened s w) b ≡ opened s (w ++ (b ∷ []))
grown_opened s w b = ap₂ (λ n v. scanned s.count s.broken n v s.nx s.ny s.nz) (size_snoc w b) (value_more w b)

-- ---- words

-- A word that has ended counts or not.
unfoldable pub word_ends : Seen → List ℕ → List ℕ → State
word_ends s d w =
    cond (not s.broken && (is_number w && ltb s.count 515)) (state (counted s (spelled w)) (stored s.count (spelled w) d)) (state (lost s) d)

unfoldable pub after_words : State → List (List ℕ) → State
after_words st [] = st
after_words st (w ∷ ws) = after_words (word_ends st.seen st.codes w) ws

module _ (b : ℕ) (bs : List ℕ) where
  number_good : is_number (b ∷ bs) ≡ good (b ∷ bs)
  unfolding is_number
  number_good = rw (le-leb 1 (suc (length bs)) (omega arith))

  size_some : eqb (size_of (b ∷ bs)) 0 ≡ false
  size_some = by_test (ltb (suc (length bs)) 10) (λ t. rw t (ne_eqb (suc (length bs)) 0 (λ e. omega arith))) (λ t. rw t)

  closed_opened : (s : Seen) (d : List ℕ) → closed (opened s (b ∷ bs)) d ≡ word_ends s d (b ∷ bs)
  unfolding closed counts word_ends
  closed_opened s d =
      rw (size_some, number_good)
      (by_test (good (b ∷ bs))
      (λ t. rw (t, below t))
      (λ t. rw (t, and-false (not s.broken))))
    where
      below : good (b ∷ bs) ≡ true → ltb (spelled (b ∷ bs)) (2 ^ 32) ≡ true
      below t = and_second (leb (length (b ∷ bs)) 10) (ltb (spelled (b ∷ bs)) (2 ^ 32)) (and_second (all_digits (b ∷ bs)) (leb (length (b ∷ bs)) 10 && ltb (spelled (b ∷ bs)) (2 ^ 32)) t)

-- No byte of a word has come.
abbrev Idle : Seen → Type 0
Idle s = opened s [] ≡ s

ends_idle : (s : Seen) (d w : List ℕ) → Idle (word_ends s d w).seen
unfolding word_ends spelled all_digits value_from
ends_idle s d w = by_test (not s.broken && (is_number w && ltb s.count 515)) (λ t. rw t) (λ t. rw t)

-- Nothing ends where no byte has come.
closed_idle : (s : Seen) (d : List ℕ) → closed (opened s []) d ≡ state (opened s []) d
unfolding closed
closed_idle s d = refl

-- The last word ends.
abbrev pub shut : State → State
shut st = closed st.seen st.codes

-- One byte of a text, in the words and in the scanner.
module _ (s : Seen) (d w : List ℕ) (b : ℕ) (bs : List ℕ) where
  walk_gap : gap b ≡ true → shut (after (closed (opened s w) d) bs) ≡ after_words (state s d) (ended w (words_from [] bs))
      → shut (after (state (opened s w) d) (b ∷ bs)) ≡ after_words (state s d) (words_from w (b ∷ bs))
  unfolding after words_from step
  walk_gap t e = ap (λ (c : Bool). shut (after (cond c (closed (opened s w) d) (state (grown (opened s w) b) d)) bs)) t ∙ rw t e

  walk_byte : gap b ≡ false → shut (after (state (opened s (w ++ (b ∷ []))) d) bs) ≡ after_words (state s d) (words_from (w ++ (b ∷ [])) bs)
      → shut (after (state (opened s w) d) (b ∷ bs)) ≡ after_words (state s d) (words_from w (b ∷ bs))
  unfolding after words_from step
  walk_byte t e =
      ap (λ (c : Bool). shut (after (cond c (closed (opened s w) d) (state (grown (opened s w) b) d)) bs)) t
      ∙ ap (λ (u : Seen). shut (after (state u d) bs)) (grown_opened s w b) ∙ rw t e

walk : (s : Seen) (d w text : List ℕ) → Idle s → shut (after (state (opened s w) d) text) ≡ after_words (state s d) (words_from w text)
unfolding after after_words words_from ended
walk s d [] [] i = closed_idle s d ∙ rw i
walk s d (b ∷ w) [] i = closed_opened b w s d
walk s d w (b ∷ bs) i =
    by_test (gap b)
    (λ t. walk_gap s d w b bs t (ends w (λ u e j. walk u e [] bs j)))
    (λ t. walk_byte s d w b bs t (walk s d (w ++ (b ∷ [])) bs i))
  where
    Walks : Type 0
    Walks = (u : Seen) (e : List ℕ) → Idle u → shut (after (state (opened u []) e) bs) ≡ after_words (state u e) (words_from [] bs)

    ends : (w : List ℕ) → Walks → shut (after (closed (opened s w) d) bs) ≡ after_words (state s d) (ended w (words_from [] bs))
    ends [] ih = ap (λ (st : State). shut (after st bs)) (closed_idle s d) ∙ ih s d i
    ends (c ∷ w) ih =
        let st = word_ends s d (c ∷ w) in
        let j : Idle st.seen = ends_idle s d (c ∷ w) in
        ap (λ (u : State). shut (after u bs)) (closed_opened c w s d ∙ ap (λ (u : Seen). state u st.codes) (sym j)) ∙ ih st.seen st.codes j

-- The bytes of a text from the first on do what its words do.
pub walked : (d text : List ℕ) → shut (after (state begun d) text) ≡ after_words (state begun d) (words_of text)
unfolding words_of spelled all_digits value_from
walked d text = walk begun d [] text refl
