-- The cut list's order parts the places where intervals begin at x.
use Rattle.std.proofs.Common.{◌*◌, arith, rules}
use lib.Dec.{ltb}
use Rattle.std.proofs.lemmas.List.Sorted.{IsPartitionPoint-from_clause}
use Rattle.lowest.proofs.PlaceLaws.{inner, inner_long, inner_same, alone_within, alone_first, more_within, parted, more_first}
use Rattle.lowest.proofs.interval_of.Goals as goal

pub returns-in_default-clause-within : goal.returns-in_default-clause-within
returns-in_default-clause-within c = alone_within c.args.c.now c.args.x (omega arith)

pub returns-in_default-clause-first : goal.returns-in_default-clause-first
returns-in_default-clause-first c n t = alone_first c.args.c.now c.args.x (omega arith)

pub returns-in-len2-up-clause-within : goal.returns-in-len2-up-clause-within
returns-in-len2-up-clause-within c =
    let h = c.in-len2-up.len_at_least in
    more_within c.args.c.now c.args.x (inner c.args.c.now h) (inner_long c.args.c.now h) (inner_same c.args.c.now h) _ c.partition_point.ensures.bound

pub returns-in-len2-up-clause-first : goal.returns-in-len2-up-clause-first
returns-in-len2-up-clause-first c n t =
    let h = c.in-len2-up.len_at_least in
    let long = inner_long c.args.c.now h in
    let same = inner_same c.args.c.now h in
    more_first c.args.c.now c.args.x (inner c.args.c.now h) long same _ c.partition_point.ensures.bound
    (IsPartitionPoint-from_clause (λ y. ltb (2 * y) c.args.x) (inner c.args.c.now h) _ c.partition_point.ensures.partitioned (parted c.args.c.now c.args.x (inner c.args.c.now h) long same n t)
    (λ a r f' k. search rules))
