use Rattle.sentences.specs.Phrases.{reasons, reason}
use Rattle.sentences.proofs.put.put_from_11.Goals as goal

pub put_phrase-requires : goal.put_phrase-requires
unfolding reason reasons
put_phrase-requires c = rw c.in-11.is at c.requires.room

pub put_phrase-requires-in-12 : goal.put_phrase-requires-in-12
unfolding reason reasons
put_phrase-requires-in-12 c = rw c.in-12.is at c.requires.room

pub put_phrase-requires-in-13 : goal.put_phrase-requires-in-13
unfolding reason reasons
put_phrase-requires-in-13 c = rw c.in-13.is at c.requires.room

pub put_phrase-requires-in-14 : goal.put_phrase-requires-in-14
unfolding reason reasons
put_phrase-requires-in-14 c = rw c.in-14.is at c.requires.room

pub put_phrase-requires-in-15 : goal.put_phrase-requires-in-15
unfolding reason reasons
put_phrase-requires-in-15 c = rw c.in-15.is at c.requires.room

pub put_phrase-requires-in-16 : goal.put_phrase-requires-in-16
unfolding reason reasons
put_phrase-requires-in-16 c = rw c.in-16.is at c.requires.room

pub put_phrase-requires-in-17 : goal.put_phrase-requires-in-17
unfolding reason reasons
put_phrase-requires-in-17 c = rw c.in-17.is at c.requires.room

pub put_phrase-requires-in-18 : goal.put_phrase-requires-in-18
unfolding reason reasons
put_phrase-requires-in-18 c = rw c.in-18.is at c.requires.room

pub put_phrase-requires-in-19 : goal.put_phrase-requires-in-19
unfolding reason reasons
put_phrase-requires-in-19 c = rw c.in-19.is at c.requires.room

pub put_phrase-requires-in-20 : goal.put_phrase-requires-in-20
unfolding reason reasons
put_phrase-requires-in-20 c = rw c.in-20.is at c.requires.room

pub returns-in-11-clause-puts : goal.returns-in-11-clause-puts
unfolding reason reasons
returns-in-11-clause-puts c = rw c.in-11.is c.put_phrase.ensures.puts

pub returns-in-12-clause-puts : goal.returns-in-12-clause-puts
unfolding reason reasons
returns-in-12-clause-puts c = rw c.in-12.is c.put_phrase-in-12.ensures.puts

pub returns-in-13-clause-puts : goal.returns-in-13-clause-puts
unfolding reason reasons
returns-in-13-clause-puts c = rw c.in-13.is c.put_phrase-in-13.ensures.puts

pub returns-in-14-clause-puts : goal.returns-in-14-clause-puts
unfolding reason reasons
returns-in-14-clause-puts c = rw c.in-14.is c.put_phrase-in-14.ensures.puts

pub returns-in-15-clause-puts : goal.returns-in-15-clause-puts
unfolding reason reasons
returns-in-15-clause-puts c = rw c.in-15.is c.put_phrase-in-15.ensures.puts

pub returns-in-16-clause-puts : goal.returns-in-16-clause-puts
unfolding reason reasons
returns-in-16-clause-puts c = rw c.in-16.is c.put_phrase-in-16.ensures.puts

pub returns-in-17-clause-puts : goal.returns-in-17-clause-puts
unfolding reason reasons
returns-in-17-clause-puts c = rw c.in-17.is c.put_phrase-in-17.ensures.puts

pub returns-in-18-clause-puts : goal.returns-in-18-clause-puts
unfolding reason reasons
returns-in-18-clause-puts c = rw c.in-18.is c.put_phrase-in-18.ensures.puts

pub returns-in-19-clause-puts : goal.returns-in-19-clause-puts
unfolding reason reasons
returns-in-19-clause-puts c = rw c.in-19.is c.put_phrase-in-19.ensures.puts

pub returns-in-20-clause-puts : goal.returns-in-20-clause-puts
unfolding reason reasons
returns-in-20-clause-puts c = rw c.in-20.is c.put_phrase-in-20.ensures.puts
