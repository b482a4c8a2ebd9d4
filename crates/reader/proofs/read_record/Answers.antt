-- Refused, and accepted.
use Rattle.std.proofs.Common.{sym}
use Rattle.reader.proofs.LoadedLaws.{readable, mapped_of, read_accepted}
use Rattle.reader.proofs.read_record.Goals as goal

pub load-requires : goal.load-requires
load-requires c =
    let R = readable c.args.bytes.now _ (sym c.in_ok-head.ensures.0) in
    (mapped_of R, R.whole)

pub returns-clause-whole : goal.returns-clause-whole
returns-clause-whole c = read_accepted _ _ c.in_ok-head.ensures.0 _ _ c.in_ok-head.ensures.1 c.load.ensures
