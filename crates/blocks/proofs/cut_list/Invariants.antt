-- The rule of the whole list is its rule from entry i on.
use Rattle.blocks.proofs.CodeLaws.{Same}
use Rattle.blocks.proofs.cut_list.Given as goal

abbrev pub invariant-loop-i : goal.invariant-loop-i
invariant-loop-i l = Same l.n l.c l.i
