use Rattle.std.proofs.Common.{rules}
use Rattle.extents.proofs.SizeLaws.{sized_of}
use Rattle.parser.proofs.Scanner.is_whole.Goals as goal

pub voxels-requires : goal.voxels-requires
voxels-requires c = search (sized_of, rules)
