-- With fewer than two active cells there is no edge.
use Rattle.pass_cross.proofs.CrossLaws.{numbers_fit, cross_idle, cross_joined}
use Rattle.pass_cross.proofs.cross_at.Goals as goal

pub returns-then-count_active-lt2 : goal.returns-then-count_active-lt2
returns-then-count_active-lt2 c = search cross_idle

pub join_among-requires : goal.join_among-requires
join_among-requires c = (λ k h. numbers_fit _ _ _ _ c.numbers_around-numbers.ensures _ _ c.requires.at.inside c.requires.own k, c.requires.own.fits)

pub returns : goal.returns
returns c = search cross_joined
