-- The scanner does what the words of the text say: with a tray of 512 places it tells the refusal of the text, or its extents and codes.
-- Assumes nothing.
use mathlib.Core.Path.{◌≡◌, refl, sym, ap, subst, ◌∙◌}
use mathlib.Core.Bool.{Bool, true, false, cond, not, ◌&&◌, and-false, and-true, and_self, true≢false}
use mathlib.Core.List.{List, [], ◌∷◌, map}
use Prim.Native.Nat.{ℕ, suc, ◌+◌, ◌-◌, ◌≤◌, ◌<◌}
use native.Mathlib.Nat.{add-zero}
use native.Mathlib.Omega.{arith}
use lib.Dec.{eqb, leb, ltb, eqb-zero-suc, eqb-suc-suc}
use lib.ListN.{length, take, drop, set, length-map, length-drop}
use lib.Seq.{sets, sets-eq, take-nil, take_all, take_at}
use borrow.Author.Tests.{le-leb, lt-leb, lt-ltb, le-ltb, ne_eqb, eqb-true, eqb-false, ltb-true, ltb-false}
use Rattle.lists.proofs.Cases.{by_test, not_twice, and_first, and_second, and_both}
use Rattle.refusals.specs.Refusals.{number, table, first, given_by, stands_in}
use Rattle.cells.specs.Box.{volume}
use Rattle.cells.specs.Extents.{off_size}
use Rattle.cells.proofs.ExtentLaws.{volume_high}
use Rattle.extents.proofs.SizeLaws.{sized_of}
use Rattle.text.specs.Words.{words_of, all_digits, is_number, spelled}
use Rattle.text.specs.Request.{numbers, word, readable, extents_in, codes_in, formed, declines_text, text_refusal, asked_extents, asked_codes}
use Rattle.parser.specs.Scanning.{Seen, State, state, scanned, begun, extent, lost, stored, after}
use Rattle.parser.specs.Asked.{Outcome, outcome, task_of, extents_seen, off_extents, whole_text, line_number, task_seen, finished}
use Rattle.parser.proofs.WordLaws.{word_ends, after_words, walked}
use Rattle.parser.proofs.AnswerLaws.{rungs, rungs_none, ladder}

-- ---- words that lead

-- The words before the first that is no number.
unfoldable leading : List (List ℕ) → List (List ℕ)
leading [] = []
leading (w ∷ ws) = cond (is_number w) (w ∷ leading ws) []

-- The tray: in front the codes before the first word that is no number, 512 at most, as far as it has places; then what it held.
unfoldable written : List (List ℕ) → List ℕ → List ℕ
written ws d = sets d 0 (map spelled (drop 3 (take 515 (leading ws))))

leading_few : (ws : List (List ℕ)) → length (leading ws) ≤ length ws
unfolding leading
leading_few [] = omega arith
leading_few (w ∷ ws) = by_test (is_number w) (λ t. rw t (omega (arith, leading_few ws))) (λ t. rw t (omega arith))

leading_all : (ws : List (List ℕ)) → eqb (length (leading ws)) (length ws) ≡ numbers ws
unfolding leading numbers
leading_all [] = refl
leading_all (w ∷ ws) = by_test (is_number w) (λ t. rw t (eqb-suc-suc (length (leading ws)) (length ws) ∙ leading_all ws)) (λ t. rw t (eqb-zero-suc (length ws)))

leading_same : (ws : List (List ℕ)) → numbers ws ≡ true → leading ws ≡ ws
unfolding leading numbers
leading_same [] n = refl
leading_same (w ∷ ws) n = rw (and_first (is_number w) (numbers ws) n) (ap (λ l. w ∷ l) (leading_same ws (and_second (is_number w) (numbers ws) n)))

-- ---- words that end

-- After a word that does not count, none counts.
lost_stays : (s : Seen) (d : List ℕ) (ws : List (List ℕ)) → after_words (state (lost s) d) ws ≡ state (lost s) d
unfolding after_words word_ends
lost_stays s d [] = refl
lost_stays s d (w ∷ ws) = lost_stays s d ws

module _ (k x y z : ℕ) (d w : List ℕ) (ws : List (List ℕ)) where
  abbrev s : Seen
  s = scanned k false 0 0 x y z

  lost_here : (is_number w && ltb k 515) ≡ false → after_words (state s d) (w ∷ ws) ≡ state (lost s) d
  unfolding after_words word_ends
  lost_here t = rw t (lost_stays s d ws)

  code_here : 3 ≤ k → k < 515 → is_number w ≡ true
      → after_words (state s d) (w ∷ ws) ≡ after_words (state (scanned (k + 1) false 0 0 x y z) (set d (k - 3) (spelled w))) ws
  unfolding after_words word_ends extent stored
  code_here g h n =
      rw (n, lt-ltb k 515 h, ne_eqb k 0 (λ e. omega arith), ne_eqb k 1 (λ e. omega arith), ne_eqb k 2 (λ e. omega arith), le-ltb k 3 g)

-- The words that count, where k have counted.
abbrev counted_words : ℕ → List (List ℕ) → List (List ℕ)
counted_words k ws = take (515 - k) (leading ws)

abbrev ending : ℕ → ℕ → ℕ → ℕ → List ℕ → List (List ℕ) → State
ending k x y z d ws =
    state (scanned (k + length (counted_words k ws)) (not (eqb (length (counted_words k ws)) (length ws))) 0 0 x y z) (sets d (k - 3) (map spelled (counted_words k ws)))

kept_none : (k : ℕ) (w : List ℕ) (ws : List (List ℕ)) → (is_number w && ltb k 515) ≡ false → counted_words k (w ∷ ws) ≡ []
unfolding leading
kept_none k w ws t =
    by_test (is_number w)
    (λ n. let h : 515 ≤ k = ltb-false k 515 (rw n at t) in
    let e : 515 - k ≡ 0 = omega arith in rw e)
    (λ n. rw n (take-nil (515 - k)))

kept_more : (k : ℕ) (w : List ℕ) (ws : List (List ℕ)) → is_number w ≡ true → k < 515 → counted_words k (w ∷ ws) ≡ w ∷ counted_words (k + 1) ws
unfolding leading
kept_more k w ws n h = let e : 515 - k ≡ suc (515 - (k + 1)) = omega arith in rw (n, e)

-- All words after the extents.
codes_end : (k x y z : ℕ) (d : List ℕ) (ws : List (List ℕ)) → 3 ≤ k → after_words (state (scanned k false 0 0 x y z) d) ws ≡ ending k x y z d ws
unfolding after_words leading
codes_end k x y z d [] g = rw (take-nil {A = List ℕ} (515 - k), add-zero k)
codes_end k x y z d (w ∷ ws) g =
    by_test (is_number w && ltb k 515)
    (λ t. let n = and_first (is_number w) (ltb k 515) t in
    let h = ltb-true k 515 (and_second (is_number w) (ltb k 515) t) in
    code_here k x y z d w ws g h n ∙ codes_end (k + 1) x y z (set d (k - 3) (spelled w)) ws (omega arith) ∙ more n h)
    (λ t. lost_here k x y z d w ws t ∙ rw (kept_none k w ws t, add-zero k, eqb-zero-suc (length ws)))
  where
    more : is_number w ≡ true → k < 515 → ending (k + 1) x y z (set d (k - 3) (spelled w)) ws ≡ ending k x y z d (w ∷ ws)
    more n h =
        let e : k + 1 - 3 ≡ suc (k - 3) = omega arith in
        let l = length (counted_words (k + 1) ws) in
        let i : k + 1 + l ≡ k + suc l = omega arith in
        rw (kept_more k w ws n h, e, i, eqb-suc-suc l (length ws))

-- ---- what the scanner has been told once all words have ended

record Told (st : State) (d : List ℕ) (ws : List (List ℕ)) : Type 0 where
  three : leb 3 st.seen.count ≡ readable ws
  extents : readable ws ≡ true → extents_seen st.seen ≡ extents_in ws
  form : readable ws ≡ true → volume (extents_in ws) ≤ 512 → (not st.seen.broken && eqb (st.seen.count - 3) (volume (extents_in ws))) ≡ formed ws
  tray : st.codes ≡ written ws d

-- The extents cannot be read.
unread : (st : State) (s : Seen) (d : List ℕ) (ws : List (List ℕ)) → st ≡ state s d → s.count < 3 → readable ws ≡ false
    → drop 3 (take 515 (leading ws)) ≡ [] → Told st d ws
unfolding written
unread st s d ws e h r n =
    rw e (record {
      three = lt-leb 3 s.count h ∙ sym r;
      extents = λ t. absurd (true≢false (sym t ∙ r));
      form = λ t _. absurd (true≢false (sym t ∙ r));
      tray = rw n;
    })

-- l words of m count, and there are to be v: as many as there are, and numbers all.
form_plain : (n : Bool) (l m v : ℕ) → (m ≡ v → eqb l m ≡ n) → (not (not (eqb l m)) && eqb (3 + l - 3) v) ≡ (n && eqb m v)
form_plain n l m v q =
    let e : 3 + l - 3 ≡ l = omega arith in
    rw (not_twice (eqb l m), e)
    (by_test (eqb m v)
    (λ t. rw (t, and-true n, ← eqb-true m v t, and_self (eqb l m)) (q (eqb-true m v t)))
    (λ t. rw (t, and-false n) (by_test (eqb l m) (λ u. rw u (ne_eqb l v (λ i. eqb-false m v t (sym (eqb-true l m u) ∙ i)))) (λ u. rw u))))

-- The extents can be read.
module _ (a b c : List ℕ) (ws : List (List ℕ)) (d : List ℕ) (i : is_number a ≡ true) (j : is_number b ≡ true) (k : is_number c ≡ true) where
  first_three : after_words (state begun d) (a ∷ b ∷ c ∷ ws) ≡ ending 3 (spelled a) (spelled b) (spelled c) d ws
  unfolding after_words word_ends extent stored
  first_three = rw (i, j, k) (codes_end 3 (spelled a) (spelled b) (spelled c) d ws (omega arith))

  leading_three : leading (a ∷ b ∷ c ∷ ws) ≡ a ∷ b ∷ c ∷ leading ws
  unfolding leading
  leading_three = rw (i, j, k)

  readable_three : readable (a ∷ b ∷ c ∷ ws) ≡ true
  unfolding readable word
  readable_three = rw (i, j, k)

  formed_three : formed (a ∷ b ∷ c ∷ ws) ≡ (numbers ws && eqb (length ws) (volume (extents_in (a ∷ b ∷ c ∷ ws))))
  unfolding formed numbers
  formed_three = rw (i, j, k, le-leb 3 (suc (suc (suc (length ws)))) (omega arith))

  told_three : Told (after_words (state begun d) (a ∷ b ∷ c ∷ ws)) d (a ∷ b ∷ c ∷ ws)
  unfolding extents_in word written
  told_three =
      rw first_three (record {
        three = le-leb 3 (3 + length (counted_words 3 ws)) (omega arith) ∙ sym readable_three;
        extents = λ _. refl;
        form = λ _ h. form_plain (numbers ws) (length (counted_words 3 ws)) (length ws) (volume (extents_in (a ∷ b ∷ c ∷ ws))) (λ e. kept_all (omega arith)) ∙ sym formed_three;
        tray = rw leading_three;
      })
    where
      kept_all : length ws ≤ 512 → eqb (length (counted_words 3 ws)) (length ws) ≡ numbers ws
      kept_all h = rw (take_all 512 (leading ws) (omega (arith, leading_few ws))) (leading_all ws)

no_word : is_number [] ≡ false
unfolding is_number all_digits
no_word = refl

module _ (d : List ℕ) where
  abbrev after_one : ℕ → Seen
  after_one x = scanned 1 false 0 0 x 0 0

  abbrev after_two : ℕ → ℕ → Seen
  after_two x y = scanned 2 false 0 0 x y 0

  told_two : (a b : List ℕ) (ws : List (List ℕ)) → is_number a ≡ true → is_number b ≡ true → Told (after_words (state begun d) (a ∷ b ∷ ws)) d (a ∷ b ∷ ws)
  unfolding after_words word_ends extent stored leading readable word
  told_two a b [] i j = unread _ (after_two (spelled a) (spelled b)) d (a ∷ b ∷ []) (rw (i, j)) (omega arith) (rw (i, j, no_word)) (rw (i, j))
  told_two a b (c ∷ ws) i j =
      by_test (is_number c) (λ k. told_three a b c ws d i j k)
      (λ k. unread _ (lost (after_two (spelled a) (spelled b))) d (a ∷ b ∷ c ∷ ws) (rw (i, j) (lost_here 2 (spelled a) (spelled b) 0 d c ws (rw k))) (omega arith)
      (rw (i, j, k)) (rw (i, j, k)))

  told_one : (a : List ℕ) (ws : List (List ℕ)) → is_number a ≡ true → Told (after_words (state begun d) (a ∷ ws)) d (a ∷ ws)
  unfolding after_words word_ends extent stored leading readable word
  told_one a [] i = unread _ (after_one (spelled a)) d (a ∷ []) (rw i) (omega arith) (rw (i, no_word)) (rw i)
  told_one a (b ∷ ws) i =
      by_test (is_number b) (told_two a b ws i)
      (λ j. unread _ (lost (after_one (spelled a))) d (a ∷ b ∷ ws) (rw i (lost_here 1 (spelled a) 0 0 d b ws (rw j))) (omega arith) (rw (i, j)) (rw (i, j)))

  told : (ws : List (List ℕ)) → Told (after_words (state begun d) ws) d ws
  unfolding after_words leading readable word
  told [] = unread _ begun d [] refl (omega arith) (rw no_word) refl
  told (a ∷ ws) =
      by_test (is_number a) (told_one a ws)
      (λ i. unread _ (lost begun) d (a ∷ ws) (lost_here 0 0 0 0 d a ws (rw i)) (omega arith) (rw i) (rw i))

-- ---- the answer

formed_readable : (ws : List (List ℕ)) → formed ws ≡ true → readable ws ≡ true
unfolding formed numbers readable word
formed_readable [] t = absurd (true≢false (sym t))
formed_readable (a ∷ []) t = absurd (true≢false (sym t ∙ and-false (numbers (a ∷ []))))
formed_readable (a ∷ b ∷ []) t = absurd (true≢false (sym t ∙ and-false (numbers (a ∷ b ∷ []))))
formed_readable (a ∷ b ∷ c ∷ ws) t =
    let n = and_first (numbers (a ∷ b ∷ c ∷ ws)) _ t in
    let m = and_second (is_number a) (numbers (b ∷ c ∷ ws)) n in
    and_both (is_number a) _ (and_first (is_number a) (numbers (b ∷ c ∷ ws)) n)
    (and_both (is_number b) (is_number c) (and_first (is_number b) (numbers (c ∷ ws)) m) (and_first (is_number c) (numbers ws) (and_second (is_number b) (numbers (c ∷ ws)) m)))

-- A text of its form: its codes stand in front in a tray that has a place for each.
module _ (ws : List (List ℕ)) (f : formed ws ≡ true) where
  code_length : length (codes_in ws) ≡ volume (extents_in ws)
  unfolding formed codes_in
  code_length = length-map (drop 3 ws) spelled ∙ eqb-true (length (drop 3 ws)) (volume (extents_in ws)) (and_second (leb 3 (length ws)) _ (and_second (numbers ws) _ f))

  codes_front : (d : List ℕ) → volume (extents_in ws) ≤ length d → volume (extents_in ws) ≤ 512 → take (volume (extents_in ws)) (written ws d) ≡ codes_in ws
  unfolding written codes_in formed
  codes_front d h few =
      let most : length ws ≤ 515 = omega (arith, code_length, length-map (drop 3 ws) spelled, length-drop 3 ws) in
      rw (leading_same ws (and_first (numbers ws) _ f), take_all 515 ws most, sets-eq (map spelled (drop 3 ws)) d 0 (omega (arith, code_length)))
      (take_at (map spelled (drop 3 ws)) _ (volume (extents_in ws)) code_length)

rungs_same : (o p w x : Bool) → o ≡ p → (p ≡ false → w ≡ x) → rungs o w ≡ rungs p x
rungs_same o true w x i f = rw i
rungs_same o false w x i f = rw (i, f refl)

-- The tests of the text.
pub text_rungs : (text : List ℕ) → text_refusal text ≡ rungs (readable (words_of text) && off_size 8 (asked_extents text)) (formed (words_of text))
unfolding text_refusal asked_extents given_by first table number stands_in declines_text
text_rungs text = refl

-- A text that is not refused.
pub record Accepted (text : List ℕ) : Type 0 where
  pub form : formed (words_of text) ≡ true
  pub size : off_size 8 (asked_extents text) ≡ false
  pub enough : length (asked_codes text) ≡ volume (asked_extents text)

pub accepted_of : (text : List ℕ) → text_refusal text ≡ 0 → Accepted text
unfolding asked_extents asked_codes
accepted_of text z =
    let ws = words_of text in
    let n = rungs_none (readable ws && off_size 8 (extents_in ws)) (formed ws) (sym (text_rungs text) ∙ z) in
    record {
      form = n.form;
      size = rw (formed_readable (words_of text) n.form) at n.size;
      enough = code_length (words_of text) n.form;
    }

module _ (s : Seen) (e d text : List ℕ) (k : Told (state s e) d (words_of text)) (h : length d ≡ 512) where
  abbrev ws : List (List ℕ)
  ws = words_of text

  same_off : off_extents s ≡ (readable ws && off_size 8 (extents_in ws))
  unfolding off_extents
  same_off = by_test (readable ws) (λ r. rw (k.three ∙ r, r, k.extents r)) (λ r. rw (k.three ∙ r, r))

  module _ (o : (readable ws && off_size 8 (extents_in ws)) ≡ false) where
    on_size : readable ws ≡ true → off_size 8 (extents_in ws) ≡ false
    on_size r = rw r at o

    few : readable ws ≡ true → volume (extents_in ws) ≤ 512
    few r = volume_high (sized_of 8 (extents_in ws) (on_size r))

    same_whole : whole_text s ≡ formed ws
    unfolding whole_text
    same_whole =
        by_test (readable ws)
        (λ r. rw (k.three ∙ r, k.extents r, on_size r) (k.form r (few r)))
        (λ r. rw (k.three ∙ r, and-false (not s.broken)) (sym (by_test (formed ws) (λ f. absurd (true≢false (sym (formed_readable ws f) ∙ r))) (λ f. f))))

  same_number : line_number s ≡ text_refusal text
  unfolding asked_extents
  same_number = ladder s ∙ rungs_same (off_extents s) _ (whole_text s) _ same_off same_whole ∙ sym (text_rungs text)

  same_task : task_seen s ≡ task_of (text_refusal text) (asked_extents text)
  unfolding task_seen task_of asked_extents
  same_task =
      rw same_number
      (by_test (eqb (text_refusal text) 0)
      (λ z. ap (task_of (text_refusal text)) (k.extents (formed_readable ws (accepted_of text (eqb-true _ 0 z)).form)))
      (λ z. rw z))

  codes_first : text_refusal text ≡ 0 → take (volume (asked_extents text)) e ≡ asked_codes text
  unfolding asked_extents asked_codes
  codes_first z =
      let a = accepted_of text z in
      let v = volume_high (sized_of 8 (extents_in ws) a.size) in
      rw k.tray (codes_front ws a.form d (omega arith) v)

-- What is to be done for a text, and where its codes stand.
pub record Answers (text : List ℕ) (o : Outcome) : Type 0 where
  pub task : o.task ≡ task_of (text_refusal text) (asked_extents text)
  pub codes : text_refusal text ≡ 0 → take (volume (asked_extents text)) o.tray ≡ asked_codes text

-- The scanner, once it has read a text and finished, tells what the text asks for.
pub text_read : (d text : List ℕ) → length d ≡ 512 → Answers text (finished (after (state begun d) text))
unfolding finished
text_read d text h =
    let u = after_words (state begun d) (words_of text) in
    let k = told d (words_of text) in
    let a : Answers text (outcome (task_seen u.seen) u.codes) = record {
      task = same_task u.seen u.codes d text k h;
      codes = codes_first u.seen u.codes d text k h;
    } in
    subst (λ (v : State). Answers text (outcome (task_seen v.seen) v.codes)) (sym (walked d text)) a
