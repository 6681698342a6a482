use Rattle.sentences.specs.Phrases.{reasons, reason}
use Rattle.sentences.proofs.put.put_reason.Goals as goal

pub put_phrase-requires : goal.put_phrase-requires
unfolding reason reasons
put_phrase-requires c = rw c.in-1.is at c.requires.room

pub put_phrase-requires-in-2 : goal.put_phrase-requires-in-2
unfolding reason reasons
put_phrase-requires-in-2 c = rw c.in-2.is at c.requires.room

pub put_phrase-requires-in-3 : goal.put_phrase-requires-in-3
unfolding reason reasons
put_phrase-requires-in-3 c = rw c.in-3.is at c.requires.room

pub put_phrase-requires-in-4 : goal.put_phrase-requires-in-4
unfolding reason reasons
put_phrase-requires-in-4 c = rw c.in-4.is at c.requires.room

pub put_phrase-requires-in-5 : goal.put_phrase-requires-in-5
unfolding reason reasons
put_phrase-requires-in-5 c = rw c.in-5.is at c.requires.room

pub put_phrase-requires-in-6 : goal.put_phrase-requires-in-6
unfolding reason reasons
put_phrase-requires-in-6 c = rw c.in-6.is at c.requires.room

pub put_phrase-requires-in-7 : goal.put_phrase-requires-in-7
unfolding reason reasons
put_phrase-requires-in-7 c = rw c.in-7.is at c.requires.room

pub put_phrase-requires-in-8 : goal.put_phrase-requires-in-8
unfolding reason reasons
put_phrase-requires-in-8 c = rw c.in-8.is at c.requires.room

pub put_phrase-requires-in-9 : goal.put_phrase-requires-in-9
unfolding reason reasons
put_phrase-requires-in-9 c = rw c.in-9.is at c.requires.room

pub put_phrase-requires-in-10 : goal.put_phrase-requires-in-10
unfolding reason reasons
put_phrase-requires-in-10 c = rw c.in-10.is at c.requires.room

pub returns-in-1-clause-puts : goal.returns-in-1-clause-puts
unfolding reason reasons
returns-in-1-clause-puts c = rw c.in-1.is c.put_phrase.ensures.puts

pub returns-in-2-clause-puts : goal.returns-in-2-clause-puts
unfolding reason reasons
returns-in-2-clause-puts c = rw c.in-2.is c.put_phrase-in-2.ensures.puts

pub returns-in-3-clause-puts : goal.returns-in-3-clause-puts
unfolding reason reasons
returns-in-3-clause-puts c = rw c.in-3.is c.put_phrase-in-3.ensures.puts

pub returns-in-4-clause-puts : goal.returns-in-4-clause-puts
unfolding reason reasons
returns-in-4-clause-puts c = rw c.in-4.is c.put_phrase-in-4.ensures.puts

pub returns-in-5-clause-puts : goal.returns-in-5-clause-puts
unfolding reason reasons
returns-in-5-clause-puts c = rw c.in-5.is c.put_phrase-in-5.ensures.puts

pub returns-in-6-clause-puts : goal.returns-in-6-clause-puts
unfolding reason reasons
returns-in-6-clause-puts c = rw c.in-6.is c.put_phrase-in-6.ensures.puts

pub returns-in-7-clause-puts : goal.returns-in-7-clause-puts
unfolding reason reasons
returns-in-7-clause-puts c = rw c.in-7.is c.put_phrase-in-7.ensures.puts

pub returns-in-8-clause-puts : goal.returns-in-8-clause-puts
unfolding reason reasons
returns-in-8-clause-puts c = rw c.in-8.is c.put_phrase-in-8.ensures.puts

pub returns-in-9-clause-puts : goal.returns-in-9-clause-puts
unfolding reason reasons
returns-in-9-clause-puts c = rw c.in-9.is c.put_phrase-in-9.ensures.puts

pub returns-in-10-clause-puts : goal.returns-in-10-clause-puts
unfolding reason reasons
returns-in-10-clause-puts c = rw c.in-10.is c.put_phrase-in-10.ensures.puts
