-- The loop keeps: the flag and the words from `i` on decide.
use Rattle.std.proofs.Common.{◌≡◌}
use mathlib.Core.Bool.{◌&&◌}
use Rattle.checks.specs.Test.{test}
use Rattle.chain.specs.Rights.{rights_formed}
use Rattle.rights.specs.FormLaws.{rights_from}
use Rattle.rights.proofs.form.rights_fit.Given as goal

abbrev pub invariant-loop-i : goal.invariant-loop-i
invariant-loop-i l = test (rights_formed l.count l.rights) ≡ (l.ok && rights_from l.count l.rights l.i)
