-- The room is that of the word ref, and of no other: by name, so that another word is refused where the two texts differ.
use Rattle.replies.proofs.reply.put_refusal.Goals as goal

pub put_counted-requires : goal.put_counted-requires
put_counted-requires c = rw c.from.ensures c.requires
