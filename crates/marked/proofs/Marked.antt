-- The rows of the table agree with the reference, by one computed test.
use Rattle.std.specs.Prelude.{◌≡◌, refl, Bool, true, ◌&&◌, List, [], ◌∷◌, eqb}
use Rattle.std.proofs.lemmas.Bool.{false≢true}
use Rattle.std.proofs.Common.{eqb-true}
use Rattle.checks.specs.Test.{every_from}
use Rattle.checks.specs.TestLaws.{by_bool}
use Rattle.records.specs.Words.{pack_head, pack_client, pack_ledger, pack_place, pack_entry, unpack_head, unpack_client, unpack_ledger, unpack_place, unpack_entry}
use Rattle.chain.specs.Log.{put, place, of_ledger, along_list, newest_from}
use Rattle.chain.specs.Rights.{right_in, with_right, all_rights}
use Rattle.chain.specs.Buffers.{head, clients_in, ledgers_in, list_in, entries_in}
use Rattle.chain.specs.Plans.{numbered_step, word_step}
use Rattle.chain.specs.Values.{sum}
use Rattle.chain.specs.Adviser.{adviser}
use Rattle.chain.specs.Marks.{pairs_of, among, all_zero, well_marked, word_of, set_answer, drop_answer, read_mark_answer}
use Rattle.chain.specs.Windows.{window_from, first_window}
use Rattle.chain.specs.Operations.{after_fresh, fresh_buffers, fresh_answer, after_steps, after_step, step_answer, step_effect, cleared, chain_reading, read_chain_answer}
use Rattle.marked.specs.Row.{Row}
use Rattle.marked.specs.Formed.{length_rows, head_rows, client_rows, ledger_rows, place_rows, entry_rows, formed_rows}
use Rattle.marked.specs.Given.{fifteen, numbered, finish_rows, refusal_rows, mark_rows, advice_rows, word_rows, given_rows}
use Rattle.marked.specs.Rows.{fresh, malformed, writing, handover, plan_rows, rights_rows, rows, Agree}

agree : List Row → Bool
agree [] = true
agree (r ∷ rs) = eqb r.found r.expected && agree rs

-- The test is enough, whatever the rows.
from-test : (rs : List Row) → agree rs ≡ true → Agree rs
unfolding agree Agree
from-test [] h = tt
from-test (r ∷ rs) h = by_bool (eqb r.found r.expected) (λ t. (eqb-true r.found r.expected t, from-test rs (rw t at h)))
    (λ t. absurd (false≢true (rw t at h)))

computed : agree rows ≡ true
unfolding agree rows rights_rows plan_rows length_rows head_rows client_rows ledger_rows place_rows entry_rows formed_rows fifteen numbered finish_rows refusal_rows mark_rows advice_rows word_rows given_rows adviser pairs_of among all_zero well_marked word_of set_answer drop_answer read_mark_answer window_from first_window sum cleared chain_reading read_chain_answer fresh_answer word_step numbered_step fresh malformed writing handover after_fresh fresh_buffers after_steps after_step step_answer step_effect all_rights right_in with_right every_from pack_head pack_client pack_ledger pack_place pack_entry unpack_head unpack_client unpack_ledger unpack_place unpack_entry put place of_ledger along_list newest_from head clients_in ledgers_in list_in entries_in
computed = refl

pub marked : Agree rows
marked = from-test rows computed
