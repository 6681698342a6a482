-- What the verdict on all three buffers of a step goes by: the length of the rights, and their words by the head's client count.
use Rattle.std.specs.Prelude.{ℕ, ◌≡◌, Bool, not, List, length, get_or, eqb}
use Rattle.std.proofs.Common.{ap, ◌∙◌}
use Rattle.checks.specs.Test.{Test, differ, is_not, test}
use Rattle.records.specs.declared.head.Head.{Head}
use Rattle.records.specs.Words.{unpack_head}
use Rattle.chain.specs.Buffers.{head}
use Rattle.chain.specs.Rights.{rights_length, rights_formed}
use Rattle.chain.specs.Operations.{buffers, held}
use Rattle.wellformed.specs.ThirdBufferLaws.{twice-not}

module _ (s e rights : List ℕ) where
  abbrev pub wrong : Test
  wrong = differ (length rights) rights_length

  abbrev pub faulty : Test
  faulty = is_not (rights_formed (held (buffers s e)).client_count rights)

  pub lengths-decide : {right : Bool} → right ≡ eqb (length rights) rights_length → right ≡ not (test wrong)
  lengths-decide is = is ∙ twice-not _

  pub words-decide : {h : Head} {ok : Bool} → h ≡ unpack_head (get_or s 0 0) → ok ≡ test (rights_formed h.client_count rights) → ok ≡ not (test faulty)
  unfolding head
  words-decide at is = is ∙ ap (λ (h : Head). test (rights_formed h.client_count rights)) at ∙ twice-not _
