-- Every call of a public entry and every text for the program, with its list of cases and what its contract answers.
-- Assumes nothing.
use Rattle.std.specs.Prelude.{◌≡◌, List, ℕ, length}
use Rattle.refusals.specs.Refusals.{Case}
use Rattle.cells.specs.declared.Triple.{Triple}
use Rattle.counts.specs.Counts.{Counted}
use Rattle.labeller.specs.Labelling as labeller
use Rattle.maxima.specs.Maxima as maxima
use Rattle.writer.specs.Writing.{Written}
use Rattle.writer.specs.Writing as writer
use Rattle.reader.specs.Loaded.{Told as Heading}
use Rattle.reader.specs.Loaded as reader
use Rattle.layer_printer.specs.Printing as layer_printer
use Rattle.joiner.specs.Job.{Told, Tables, State}
use Rattle.joiner.specs.Calls.{Call, Answer}
use Rattle.joiner.specs.Declines as joiner
use Rattle.joiner.specs.Outcomes.{CallStep}
use Rattle.strain_calls.specs.Tables.{TotalTables}
use Rattle.strain_calls.specs.Calls.{StrainCall, StrainAnswer}
use Rattle.strain_calls.specs.Declines.{opening_declines, strain_declines}
use Rattle.strain_calls.specs.Outcomes.{TotalsOpening, StrainStep}
use Rattle.cell_calls.specs.Calls.{CellCall, CellAnswer}
use Rattle.cell_calls.specs.Declines.{cell_declines}
use Rattle.cell_calls.specs.Outcomes.{CellStep}
use Rattle.text.specs.Words.{words_of}
use Rattle.text.specs.Request.{declines_text}
use Rattle.parser.specs.Scanning.{state, begun, after}
use Rattle.parser.specs.Asked.{Task, finished}

pub data PublicCall : Type 0 where
  -- extents, codes, map and working tray
  label : Triple → List ℕ → List ℕ → List ℕ → PublicCall
  most_components : Triple → PublicCall
  -- extents, origin, map and record tray
  write_record : Triple → Triple → List ℕ → List ℕ → PublicCall
  -- a record and the map tray
  read_record : List ℕ → List ℕ → PublicCall
  -- extents, layer, map and the tray for the pages
  print_layer : Triple → ℕ → List ℕ → List ℕ → PublicCall
  -- what it is told, the nineteen tables, the three of the readings
  opening : Told → Tables → TotalTables → PublicCall
  -- enrol, seam, crossing, point, lookup or row
  call : State → Call → PublicCall
  -- strain or total
  about_readings : State → TotalTables → StrainCall → PublicCall
  -- request_blocks or fill_cells
  about_cells : State → CellCall → PublicCall
  -- the listing program with a text to read
  program : List ℕ → PublicCall

-- Its list of cases.
unfoldable pub cases_of : PublicCall → List Case
cases_of (label e codes m w) = labeller.declines e (length codes) (length m) (length w)
cases_of (most_components e) = maxima.declines e
cases_of (write_record e o m t) = writer.declines e o m (length t)
cases_of (read_record r t) = reader.declines r (length t)
cases_of (print_layer e z m t) = layer_printer.declines e z m (length t)
cases_of (opening o lent w) = opening_declines o lent w
cases_of (call s c) = joiner.declines s c
cases_of (about_readings s w c) = strain_declines s w c
cases_of (about_cells s c) = cell_declines s c
cases_of (program t) = declines_text (words_of t)

-- n is the number with which it is answered, 0 for no refusal: what is left and answered is as the `ensures` of the public entry says, and n is its refusal.
-- Of the program, once it has read the text to its end, the number of the line `refused` that it is to print.
abbrev pub Answers : PublicCall → ℕ → Type 0
Answers (label e codes m w) n = (r : Counted) × (m' : List ℕ) × (w' : List ℕ) × (labeller.outcome r m' w' ≡ labeller.labelling e codes m w) × (n ≡ r.refusal)
Answers (most_components e) n = (r : Counted) × (r ≡ maxima.most_components e) × (n ≡ r.refusal)
Answers (write_record e o m t) n = (r : Written) × (t' : List ℕ) × (writer.outcome r t' ≡ writer.writing e o m t) × (n ≡ r.refusal)
Answers (read_record b t) n = (r : Heading) × (t' : List ℕ) × (reader.outcome r t' ≡ reader.reading b t) × (n ≡ r.refusal)
Answers (print_layer e z m t) n = (t' : List ℕ) × (layer_printer.outcome n t' ≡ layer_printer.layer_printing e z m t)
Answers (opening o lent w) n = (s : State) × (v : TotalTables) × TotalsOpening o lent w n s v
Answers (call s c) n = (a : Answer) × (t : State) × CallStep s c a t × (n ≡ a.refusal)
Answers (about_readings s w c) n = (a : StrainAnswer) × (v : TotalTables) × StrainStep s w c a v × (n ≡ a.refusal)
Answers (about_cells s c) n = (a : CellAnswer) × CellStep s c a × (n ≡ a.refusal)
Answers (program t) n = (d : List ℕ) × (length d ≡ 512) × ((finished (after (state begun d) t)).task ≡ Task.PrintRefused n)
