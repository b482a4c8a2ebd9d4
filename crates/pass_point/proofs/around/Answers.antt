-- The odd axes of a point cell are all three.
use Rattle.pass_point.proofs.PointLaws.{reads_x, reads_y, reads_z, point_around}
use Rattle.pass_point.proofs.around.Goals as goal

pub overflow_sub-result : goal.overflow_sub-result
overflow_sub-result c = (reads_x c.args.e c.args.p c.requires.level c.args.map.now c.requires.size c.requires.within).low

pub bounds-map-p-2 : goal.bounds-map-p-2
bounds-map-p-2 c = (reads_x c.args.e c.args.p c.requires.level c.args.map.now c.requires.size c.requires.within).high

pub overflow_sub-result-2 : goal.overflow_sub-result-2
overflow_sub-result-2 c = (reads_y c.args.e c.args.p c.requires.level c.args.map.now c.requires.size c.requires.within).low

pub bounds-map-p-4 : goal.bounds-map-p-4
bounds-map-p-4 c = (reads_y c.args.e c.args.p c.requires.level c.args.map.now c.requires.size c.requires.within).high

pub overflow_sub-result-3 : goal.overflow_sub-result-3
overflow_sub-result-3 c = (reads_z c.args.e c.args.p c.requires.level c.args.map.now c.requires.size c.requires.within).low

pub bounds-map-p-6 : goal.bounds-map-p-6
bounds-map-p-6 c = (reads_z c.args.e c.args.p c.requires.level c.args.map.now c.requires.size c.requires.within).high

pub returns : goal.returns
returns c = point_around c.args.e c.args.p c.requires.level c.args.map.now
