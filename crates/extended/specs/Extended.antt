-- Lists of statement 3's calls together with the calls that a later request adds (document 02: "claims over several calls .. suppose what statement 3
-- supposes"). The request has calls C, answers A and tables W of its own, and says by `Step` what one of its calls does.
-- Assumes nothing.
use Rattle.std.specs.Prelude.{List, [], ◌∷◌}
use Rattle.joiner.specs.Job.{State}
use Rattle.joiner.specs.Outcomes.{CallStep}
use Rattle.joiner.specs.Statement.{Event}

-- A call of the longer list: one of statement 3's, or one of the request's with its answer and the request's tables as it left them.
pub data LongEvent (C A W : Type 0) : Type 0 where
  base : Event → LongEvent C A W
  added : C → A → W → LongEvent C A W

-- Statement 3's calls among them.
unfoldable pub base_calls : {C A W : Type 0} → List (LongEvent C A W) → List Event
base_calls [] = []
base_calls (base e ∷ es) = e ∷ base_calls es
base_calls (added c a w ∷ es) = base_calls es

-- Each call got job and tables "as the call before it, or at first the opening, left them". A call of statement 3 is not lent the request's tables; a
-- call of the request changes neither the job nor the other tables.
pub data LongRun {C A W : Type 0} (Step : State → W → C → A → W → Type 0) : State → W → List (LongEvent C A W) → Type 0 where
  none : {s : State} {w : W} → LongRun Step s w []
  next : {s : State} {w : W} {e : Event} {es : List (LongEvent C A W)} → CallStep s e.call e.answer e.after → LongRun Step e.after w es → LongRun Step s w (base e ∷ es)
  next_added : {s : State} {w v : W} {c : C} {a : A} {es : List (LongEvent C A W)} → Step s w c a v → LongRun Step s v es → LongRun Step s w (added c a v ∷ es)
