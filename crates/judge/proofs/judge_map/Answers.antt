use Rattle.refusals.specs.Refusals.{number}
use Rattle.judge.proofs.JudgeLaws.{map-6, map-tallies, map-8, map-0}
use Rattle.judge.proofs.judge_map.Goals as goal

pub returns-then-not-whole : goal.returns-then-not-whole
unfolding number
returns-then-not-whole c = map-6 c.args.job _ _ _ _ c.if-not-whole.true

pub returns-then-not-tallies_fit : goal.returns-then-not-tallies_fit
unfolding number
returns-then-not-tallies_fit c = map-tallies c.args.job _ _ _ _ c.if-not-whole.false _ c.tallies_fit.ensures c.if-not-tallies_fit.true

pub returns-then-not-map_stands : goal.returns-then-not-map_stands
unfolding number
returns-then-not-map_stands c = map-8 c.args.job _ _ _ _ c.if-not-whole.false _ c.tallies_fit.ensures c.if-not-tallies_fit.false _ c.map_stands.ensures c.if-not-map_stands.true

pub returns : goal.returns
returns c = map-0 c.args.job _ _ _ _ c.if-not-whole.false _ c.tallies_fit.ensures c.if-not-tallies_fit.false _ c.map_stands.ensures c.if-not-map_stands.false
