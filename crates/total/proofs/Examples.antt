-- The total of the reference's example session, and short inputs, worked out by the definition itself.
use Rattle.std.specs.Prelude.{◌≡◌, refl}
use Rattle.text.specs.Bytes.{bytes}
use Rattle.text.specs.Find.{index_of}
use Rattle.text.specs.Decimal.{numeral_of, starts, all_digits, is_digit, value, decimal, digits}
use Rattle.checks.specs.Test.{every_from}
use Rattle.records.specs.Words.{pack_head, pack_client, pack_ledger, pack_place, pack_entry, unpack_head, unpack_client, unpack_ledger, unpack_place, unpack_entry}
use Rattle.chain.specs.Log.{put, place, of_ledger, along_list, newest_from}
use Rattle.chain.specs.Buffers.{head, clients_in, ledgers_in, list_in, entries_in}
use Rattle.chain.specs.Rights.{right_in, all_rights}
use Rattle.chain.specs.Operations.{read_ledger_part, chain_reading, cleared, fresh_buffers, after_steps, after_step, step_effect}
use Rattle.chain.specs.Values.{sum}
use Rattle.grammar.specs.Grammar.{parse_line, parse_write, letter_kind, with_client}
use Rattle.totals.specs.Totals.{ledger_sum, run_sum, run_total}
use Rattle.amounts.specs.Amounts.{padded, pointed, fixed}
use Rattle.requests.specs.Lines.{lines, longer}
use Rattle.requests.specs.Requests.{request_of, taken}
use Rattle.requests.specs.Opening.{opening, started_by, started, client_count}
use Rattle.total.specs.Output.{ledger_line, total_line, rounded_line, total_lines, ledger_lines, log_text, output}

unended : output (bytes "3") ≡ bytes "bad start\n"
unfolding output opening started_by lines longer started client_count
unended = refl

example-total : output (bytes "3\nB 0\nF 0\nC 0\nP 0\nW 0 7\nN 1\nB 1\nF 1\nL 1\nK 1\nW 0 8\nC 1\nP 1\nW 1 9\nO 0\n")
    ≡ bytes "ledger 1 entries 1 sum 0.000000000007\nledger 2 entries 1 sum 0.000000000009\ntotal 0.000000000016\nrounded 0.000\n"
unfolding output opening started_by lines longer started client_count taken request_of index_of parse_line parse_write letter_kind with_client numeral_of starts all_digits is_digit value decimal digits sum ledger_line total_line rounded_line total_lines ledger_lines log_text ledger_sum run_sum run_total padded pointed fixed read_ledger_part chain_reading cleared fresh_buffers after_steps after_step step_effect right_in all_rights every_from pack_head pack_client pack_ledger pack_place pack_entry unpack_head unpack_client unpack_ledger unpack_place unpack_entry put place of_ledger along_list newest_from head clients_in ledgers_in list_in entries_in
example-total = refl
