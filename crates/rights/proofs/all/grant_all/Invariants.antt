-- The loop keeps: the words so far are granted.
use Rattle.std.proofs.Common.{◌≡◌}
use lib.ListN.{length, take}
use Rattle.rights.specs.All.{granted}
use Rattle.rights.proofs.all.grant_all.Given as goal

abbrev pub invariant-loop-i : goal.invariant-loop-i
invariant-loop-i l = (length l.rights ≡ length l.initial.rights) × (take l.i l.rights ≡ take l.i (granted l.count (length l.initial.rights)))
