use Rattle.std.proofs.Common.{arith}
use Rattle.sentences.specs.Phrases.{reasons, reason}
use Rattle.text.specs.Puts.{puts-none}
use Rattle.sentences.specs.PhraseTableLaws.{no-reason}
use Rattle.sentences.proofs.put.put_from_21.Goals as goal

pub put_phrase-requires : goal.put_phrase-requires
unfolding reason reasons
put_phrase-requires c = rw c.in-21.is at c.requires.room

pub put_phrase-requires-in-22 : goal.put_phrase-requires-in-22
unfolding reason reasons
put_phrase-requires-in-22 c = rw c.in-22.is at c.requires.room

pub put_phrase-requires-in-23 : goal.put_phrase-requires-in-23
unfolding reason reasons
put_phrase-requires-in-23 c = rw c.in-23.is at c.requires.room

pub put_phrase-requires-in-24 : goal.put_phrase-requires-in-24
unfolding reason reasons
put_phrase-requires-in-24 c = rw c.in-24.is at c.requires.room

pub put_phrase-requires-in-25 : goal.put_phrase-requires-in-25
unfolding reason reasons
put_phrase-requires-in-25 c = rw c.in-25.is at c.requires.room

pub put_phrase-requires-in-26 : goal.put_phrase-requires-in-26
unfolding reason reasons
put_phrase-requires-in-26 c = rw c.in-26.is at c.requires.room

pub put_phrase-requires-in-27 : goal.put_phrase-requires-in-27
unfolding reason reasons
put_phrase-requires-in-27 c = rw c.in-27.is at c.requires.room

pub put_phrase-requires-in-28 : goal.put_phrase-requires-in-28
unfolding reason reasons
put_phrase-requires-in-28 c = rw c.in-28.is at c.requires.room

pub returns-in-21-clause-puts : goal.returns-in-21-clause-puts
unfolding reason reasons
returns-in-21-clause-puts c = rw c.in-21.is c.put_phrase.ensures.puts

pub returns-in-22-clause-puts : goal.returns-in-22-clause-puts
unfolding reason reasons
returns-in-22-clause-puts c = rw c.in-22.is c.put_phrase-in-22.ensures.puts

pub returns-in-23-clause-puts : goal.returns-in-23-clause-puts
unfolding reason reasons
returns-in-23-clause-puts c = rw c.in-23.is c.put_phrase-in-23.ensures.puts

pub returns-in-24-clause-puts : goal.returns-in-24-clause-puts
unfolding reason reasons
returns-in-24-clause-puts c = rw c.in-24.is c.put_phrase-in-24.ensures.puts

pub returns-in-25-clause-puts : goal.returns-in-25-clause-puts
unfolding reason reasons
returns-in-25-clause-puts c = rw c.in-25.is c.put_phrase-in-25.ensures.puts

pub returns-in-26-clause-puts : goal.returns-in-26-clause-puts
unfolding reason reasons
returns-in-26-clause-puts c = rw c.in-26.is c.put_phrase-in-26.ensures.puts

pub returns-in-27-clause-puts : goal.returns-in-27-clause-puts
unfolding reason reasons
returns-in-27-clause-puts c = rw c.in-27.is c.put_phrase-in-27.ensures.puts

pub returns-in-28-clause-puts : goal.returns-in-28-clause-puts
unfolding reason reasons
returns-in-28-clause-puts c = rw c.in-28.is c.put_phrase-in-28.ensures.puts

pub returns-in_default-clause-puts : goal.returns-in_default-clause-puts
returns-in_default-clause-puts c = rw (no-reason c.args.refusal (omega arith)) (puts-none _ _)
