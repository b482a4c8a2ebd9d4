-- Leaving the request's calls out, a longer list is one of statement 3.
-- Assumes nothing.
use mathlib.Core.List.{List}
use Rattle.joiner.specs.Job.{State}
use Rattle.joiner.specs.Statement.{Run}
use Rattle.extended.specs.Extended.{LongEvent, LongRun, none, next, next_added, base_calls}

pub base_run : {C A W : Type 0} {Step : State → W → C → A → W → Type 0} {s : State} {w : W} {es : List (LongEvent C A W)} → LongRun Step s w es → Run s (base_calls es)
unfolding base_calls
base_run none = Run.none
base_run (next S L) = Run.next S (base_run L)
base_run (next_added S L) = base_run L
