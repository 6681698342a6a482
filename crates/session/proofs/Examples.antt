-- The reference's example session, and short inputs, worked out by the definition itself.
use Rattle.std.specs.Prelude.{◌≡◌, refl, replicate}
use Rattle.text.specs.Bytes.{bytes}
use Rattle.text.specs.Find.{index_of}
use Rattle.text.specs.Decimal.{numeral_of, starts, all_digits, is_digit, value, decimal, digits}
use Rattle.checks.specs.Test.{every_from}
use Rattle.records.specs.Words.{pack_head, pack_client, pack_ledger, pack_place, pack_entry, unpack_head, unpack_client, unpack_ledger, unpack_place, unpack_entry}
use Rattle.chain.specs.Log.{put, place, of_ledger, along_list, newest_from}
use Rattle.chain.specs.Buffers.{head, clients_in, ledgers_in, list_in, entries_in}
use Rattle.chain.specs.Rights.{right_in, all_rights}
use Rattle.chain.specs.Operations.{cleared, chain_reading, fresh_buffers, after_step, step_answer, step_effect}
use Rattle.grammar.specs.Grammar.{parse_line, parse_write, letter_kind, with_client}
use Rattle.replies.specs.Replies.{reply_line, entry_text, entries_text, chain_line}
use Rattle.requests.specs.Lines.{lines, longer}
use Rattle.requests.specs.Requests.{request_of}
use Rattle.requests.specs.Opening.{opening, started_by, started, client_count}
use Rattle.session.specs.Transcript.{transcript, session}

empty : transcript (bytes "") ≡ bytes "bad start\n"
unfolding transcript opening started_by lines
empty = refl

unended : transcript (bytes "3") ≡ bytes "bad start\n"
unfolding transcript opening started_by lines longer started client_count
unended = refl

seventeen : transcript (bytes "17\n") ≡ bytes "bad start\n"
unfolding transcript opening started_by lines longer started client_count numeral_of starts all_digits is_digit value
seventeen = refl

one-more-byte : transcript (replicate 16385 10) ≡ bytes "too long\n"
unfolding transcript opening
one-more-byte = refl

example-session : transcript (bytes "3\nB 0\nF 0\nC 0\nP 0\nW 0 7\nN 1\nB 1\nF 1\nL 1\nK 1\nW 0 8\nC 1\nP 1\nW 1 9\nO 0\n")
    ≡ bytes "1 ok\n2 ok\n3 ok\n4 ok\n5 entry 0 place 0\n6 ok\n7 ok\n8 ok\n9 ok\n10 ok\n11 ref 12\n12 ok\n13 ok\n14 entry 1 place 0\n15 behind\nchain 0:7 1:9\n"
unfolding transcript opening started_by lines longer started client_count session request_of index_of parse_line parse_write letter_kind with_client numeral_of starts all_digits is_digit value decimal digits reply_line entry_text entries_text chain_line cleared chain_reading fresh_buffers after_step step_answer step_effect right_in all_rights every_from pack_head pack_client pack_ledger pack_place pack_entry unpack_head unpack_client unpack_ledger unpack_place unpack_entry put place of_ledger along_list newest_from head clients_in ledgers_in list_in entries_in
example-session = refl
