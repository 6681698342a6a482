use Rattle.std.proofs.Common.{arith}
use Rattle.session.proofs.StartLaws.{end_reads, end-room}
use Rattle.session.proofs.start.TranscriptSessionText.put.Goals as goal

pub put_chain-requires-clause-reads : goal.put_chain-requires-clause-reads
put_chain-requires-clause-reads c =
    let begun = c.requires.begun in
    end_reads _ begun.some begun.few c.requires.all c.requires.fresh c.put_replies.ensures.ran _ (omega arith)

pub put_chain-requires-clause-room : goal.put_chain-requires-clause-room
put_chain-requires-clause-room c =
    let begun = c.requires.begun in
    end-room _ begun.some begun.few c.requires.all c.requires.fresh c.put_replies.ensures.ran c.requires.room
