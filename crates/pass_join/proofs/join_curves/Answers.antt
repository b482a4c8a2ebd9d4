-- The cells lie one stride down and up along each odd axis.
use mathlib.Core.List.Memᴰ
use Rattle.std.proofs.Common.{[], ◌∷◌, ◌<◌, length, arith}
use Rattle.std.proofs.lemmas.List.Elements.{All-from_recursion}
use Rattle.lines.specs.Lines.{around}
use Rattle.lines.proofs.LineLaws.{below_read}
use Rattle.pass_join.proofs.JoinLaws.{blank_row, joined_around, idle_around, above_sum, near}
use Rattle.pass_join.proofs.join_curves.Goals as goal

pub overflow_sub-t : goal.overflow_sub-t
overflow_sub-t c = search (below_read, Memᴰ.head)

pub curve_at-p-requires : goal.curve_at-p-requires
curve_at-p-requires c = let n = (near c.requires.0 c.requires.1 [] c.args.a (c.args.b ∷ c.args.c ∷ []) c.requires.2).down in (c.requires.0.sized, n.0, n.1, n.2)

pub overflow_add-t : goal.overflow_add-t
overflow_add-t c = search (above_sum, Memᴰ.head)

pub curve_at-q-requires : goal.curve_at-q-requires
curve_at-q-requires c = let n = (near c.requires.0 c.requires.1 [] c.args.a (c.args.b ∷ c.args.c ∷ []) c.requires.2).up in (c.requires.0.sized, n.0, n.1, n.2)

pub overflow_sub-t-2 : goal.overflow_sub-t-2
overflow_sub-t-2 c = search (below_read, Memᴰ.head, Memᴰ.tail)

pub curve_at-u-requires : goal.curve_at-u-requires
curve_at-u-requires c = let n = (near c.requires.0 c.requires.1 (c.args.a ∷ []) c.args.b (c.args.c ∷ []) c.requires.2).down in (c.requires.0.sized, n.0, n.1, n.2)

pub overflow_add-t-2 : goal.overflow_add-t-2
overflow_add-t-2 c = search (above_sum, Memᴰ.head, Memᴰ.tail)

pub curve_at-v-requires : goal.curve_at-v-requires
curve_at-v-requires c = let n = (near c.requires.0 c.requires.1 (c.args.a ∷ []) c.args.b (c.args.c ∷ []) c.requires.2).up in (c.requires.0.sized, n.0, n.1, n.2)

pub overflow_sub-t-3 : goal.overflow_sub-t-3
overflow_sub-t-3 c = search (below_read, Memᴰ.head, Memᴰ.tail)

pub curve_at-x-requires : goal.curve_at-x-requires
curve_at-x-requires c = let n = (near c.requires.0 c.requires.1 (c.args.a ∷ c.args.b ∷ []) c.args.c [] c.requires.2).down in (c.requires.0.sized, n.0, n.1, n.2)

pub overflow_add-t-3 : goal.overflow_add-t-3
overflow_add-t-3 c = search (above_sum, Memᴰ.head, Memᴰ.tail)

pub curve_at-y-requires : goal.curve_at-y-requires
curve_at-y-requires c = let n = (near c.requires.0 c.requires.1 (c.args.a ∷ c.args.b ∷ []) c.args.c [] c.requires.2).up in (c.requires.0.sized, n.0, n.1, n.2)

pub returns-then-is_blank-6 : goal.returns-then-is_blank-6
unfolding around
returns-then-is_blank-6 c =
    idle_around c.args.e c.args.map.now {rs = c.curve_at-p.result.row ∷ c.curve_at-q.result.row ∷ c.curve_at-u.result.row ∷ c.curve_at-v.result.row ∷ c.curve_at-x.result.row ∷ c.curve_at-y.result.row ∷ []} c.args.t (c.args.a ∷ c.args.b ∷ c.args.c ∷ []) c.requires.2
    (rw (c.curve_at-p.ensures.row, c.curve_at-q.ensures.row, c.curve_at-u.ensures.row, c.curve_at-v.ensures.row, c.curve_at-x.ensures.row, c.curve_at-y.ensures.row))
    (blank_row _ c.is_blank.ensures c.if-is_blank.true, (blank_row _ c.is_blank-then-is_blank.ensures c.if-is_blank-2.true, (blank_row _ c.is_blank-then-is_blank-2.ensures c.if-is_blank-3.true, (blank_row _ c.is_blank-then-is_blank-3.ensures c.if-is_blank-4.true, (blank_row _ c.is_blank-then-is_blank-4.ensures c.if-is_blank-5.true, (blank_row _ c.is_blank-then-is_blank-5.ensures c.if-is_blank-6.true, tt))))))

pub join_alike-requires : goal.join_alike-requires
join_alike-requires c =
    let t = c.requires.0 in
    let na = near c.requires.0 c.requires.1 [] c.args.a (c.args.b ∷ c.args.c ∷ []) c.requires.2 in
    let nb = near c.requires.0 c.requires.1 (c.args.a ∷ []) c.args.b (c.args.c ∷ []) c.requires.2 in
    let nc = near c.requires.0 c.requires.1 (c.args.a ∷ c.args.b ∷ []) c.args.c [] c.requires.2 in
    All-from_recursion (λ n. n.at < length c.args.links.now)
    (c.curve_at-p.result ∷ c.curve_at-q.result ∷ c.curve_at-u.result ∷ c.curve_at-v.result ∷ c.curve_at-x.result ∷ c.curve_at-y.result ∷ [])
    (omega (arith, c.curve_at-p.ensures.at, na.down.1, t.room), (omega (arith, c.curve_at-q.ensures.at, na.up.1, t.room), (omega (arith, c.curve_at-u.ensures.at, nb.down.1, t.room), (omega (arith, c.curve_at-v.ensures.at, nb.up.1, t.room), (omega (arith, c.curve_at-x.ensures.at, nc.down.1, t.room), (omega (arith, c.curve_at-y.ensures.at, nc.up.1, t.room), tt))))))

pub returns : goal.returns
unfolding around
returns c =
    joined_around c.args.e c.args.map.now c.args.t (c.args.a ∷ c.args.b ∷ c.args.c ∷ []) c.requires.2
    (rw (c.curve_at-p.ensures.at, c.curve_at-q.ensures.at, c.curve_at-u.ensures.at, c.curve_at-v.ensures.at, c.curve_at-x.ensures.at, c.curve_at-y.ensures.at))
    (rw (c.curve_at-p.ensures.row, c.curve_at-q.ensures.row, c.curve_at-u.ensures.row, c.curve_at-v.ensures.row, c.curve_at-x.ensures.row, c.curve_at-y.ensures.row))
    c.join_alike.ensures
