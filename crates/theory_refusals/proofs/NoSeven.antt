-- "Refusal 7 is no longer given, and this is to be shown" (document 02, item 4): no list of cases has it, so no public entry and no text is answered with it.
-- Assumes nothing.
use mathlib.Core.Path.{◌≡◌, refl, sym, ap, ◌∙◌, subst}
use mathlib.Core.Logic.{◌≢◌}
use mathlib.Core.Bool.{false, true≢false}
use mathlib.Core.List.{Memᴰ}
use Prim.Native.Nat.{ℕ}
use native.Mathlib.Omega.{arith}
use Rattle.lists.specs.Lists.{is_in}
use Rattle.lists.proofs.Tests.{is_in_lem}
use Rattle.refusals.specs.declared.Refusal.{Refusal}
use Rattle.refusals.specs.Refusals.{number, given_refusal, listed_numbers}
use Rattle.refusals.proofs.RefusalLaws.{given_listed, outcome_refusal}
use Rattle.cells.specs.declared.Triple.{Triple}
use Rattle.labeller.specs.Labelling as labeller
use Rattle.labeller.proofs.OneBlock.{label_refusal}
use Rattle.counts.specs.Counts.{Counted}
use Rattle.maxima.specs.Maxima as maxima
use Rattle.writer.specs.Writing as writer
use Rattle.reader.specs.Loaded as reader
use Rattle.layer_printer.specs.Printing as layer_printer
use Rattle.layer_printer.proofs.PrintedLayer.{print_refusal}
use Rattle.joiner.specs.Declines as joiner
use Rattle.strain_calls.specs.Declines.{opening_declines, opening_refusal, strain_declines, strain_refusal}
use Rattle.cell_calls.specs.Declines.{cell_declines, cell_refusal}
use Rattle.cell_calls.proofs.AnswerLaws.{step_told}
use Rattle.text.specs.Request.{declines_text, text_refusal, asked_extents}
use Rattle.parser.specs.Asked.{Task, task_of}
use Rattle.parser.proofs.TextLaws.{text_read}
use Rattle.theory_refusals.specs.PublicCalls.{PublicCall, label, most_components, write_record, read_record, print_layer, opening, call, about_readings, about_cells, program, cases_of, Answers}

-- 7 is on no list.
pub seven_unlisted : (a : PublicCall) → is_in (listed_numbers (cases_of a)) (number Refusal.BlankVoxel) ≡ false
unfolding is_in listed_numbers number cases_of labeller.declines maxima.declines writer.declines reader.declines layer_printer.declines opening_declines joiner.declines strain_declines cell_declines declines_text
seven_unlisted (label e codes m w) = refl
seven_unlisted (most_components e) = refl
seven_unlisted (write_record e o m t) = refl
seven_unlisted (read_record r t) = refl
seven_unlisted (print_layer e z m t) = refl
seven_unlisted (opening o lent w) = refl
seven_unlisted (call s c) = refl
seven_unlisted (about_readings s w c) = refl
seven_unlisted (about_cells s c) = refl
seven_unlisted (program t) = refl

-- the number of the line `refused`, 0 for a listing
abbrev shown : Task → ℕ
shown (Task.PrintRefused n) = n
shown (Task.ListVolume x y z) = 0

task_shown : (n : ℕ) (e : Triple) → shown (task_of n e) ≡ n
unfolding task_of
task_shown n e = outcome_refusal shown n refl refl refl

-- What is answered is what the list of cases gives.
pub answers_cases : (a : PublicCall) (n : ℕ) → Answers a n → n ≡ given_refusal (cases_of a)
unfolding cases_of labeller.refusal_of maxima.most_components maxima.accepted maxima.refused maxima.refusal_of writer.writing writer.accepted writer.refused writer.refusal_of reader.reading reader.accepted reader.refused reader.refusal_of layer_printer.refusal_of opening_refusal joiner.refusal strain_refusal cell_refusal text_refusal
answers_cases (label e codes m w) n (r, m', w', p, i) = i ∙ label_refusal e codes m w r m' w' p
answers_cases (most_components e) n (r, p, i) = i ∙ outcome_refusal (λ (a : Counted). a.refusal) _ refl refl p
answers_cases (write_record e o m t) n (r, t', p, i) = i ∙ outcome_refusal (λ (a : writer.Outcome). a.answer.refusal) _ refl refl p
answers_cases (read_record b t) n (r, t', p, i) = i ∙ outcome_refusal (λ (a : reader.Outcome). a.answer.refusal) _ refl refl p
answers_cases (print_layer e z m t) n (t', p) = print_refusal e z m t t' n p
answers_cases (opening o lent w) n (s, v, p) = p.told
answers_cases (call s c) n (a, t, p, i) = i ∙ p.told
answers_cases (about_readings s w c) n (a, v, p, i) = i ∙ p.told
answers_cases (about_cells s c) n (a, p, i) = i ∙ step_told s c a p
answers_cases (program t) n (d, room, p) = ap shown (sym p ∙ (text_read d t room).task) ∙ task_shown (text_refusal t) (asked_extents t)

-- No public entry answers 7, whatever it is handed, and the program's line shows it for no text.
pub no_seven : (a : PublicCall) (n : ℕ) → Answers a n → n ≢ 7
unfolding number
no_seven a n p s =
    let g : given_refusal (cases_of a) ≡ 7 = sym (answers_cases a n p) ∙ s in
    let m : Memᴰ 7 (listed_numbers (cases_of a)) = subst (λ (k : ℕ). Memᴰ k (listed_numbers (cases_of a))) g (given_listed (cases_of a) (omega arith)) in
    true≢false (sym (is_in_lem (listed_numbers (cases_of a)) m) ∙ seven_unlisted a)
