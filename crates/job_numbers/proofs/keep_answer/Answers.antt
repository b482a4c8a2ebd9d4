use Rattle.job_numbers.proofs.NumberLaws.{kept_beside}
use Rattle.job_numbers.proofs.keep_answer.Goals as goal

pub returns-in-Err : goal.returns-in-Err
returns-in-Err c = rw c.in-Err.is (kept_beside _ _ _ _ (rw c.from.ensures at c.keep-in-Err.ensures))
