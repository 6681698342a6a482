use Rattle.sentences.specs.Sentences.{sentence}
use Rattle.text.specs.Puts.{puts_then, room-first, room_next}
use Rattle.sentences.proofs.put_sentence.Goals as goal

pub put_name-requires : goal.put_name-requires
unfolding sentence
put_name-requires c = record { room = room-first _ _ c.requires.room }

pub put_phrase-requires : goal.put_phrase-requires
unfolding sentence
put_phrase-requires c = room-first _ _ (room_next c.put_name.ensures.puts _ c.requires.room)

pub put_decimal-requires : goal.put_decimal-requires
unfolding sentence
put_decimal-requires c = room-first _ _ (room_next c.put_phrase.ensures.puts _ (room_next c.put_name.ensures.puts _ c.requires.room))

pub put_phrase-requires-2 : goal.put_phrase-requires-2
unfolding sentence
put_phrase-requires-2 c =
    room-first _ _ (room_next c.put_decimal.ensures.puts _ (room_next c.put_phrase.ensures.puts _ (room_next c.put_name.ensures.puts _ c.requires.room)))

pub put_reason-requires-clause-room : goal.put_reason-requires-clause-room
unfolding sentence
put_reason-requires-clause-room c =
    room_next c.put_phrase-2.ensures.puts _
    (room_next c.put_decimal.ensures.puts _ (room_next c.put_phrase.ensures.puts _ (room_next c.put_name.ensures.puts _ c.requires.room)))

pub returns-clause-puts : goal.returns-clause-puts
unfolding sentence
returns-clause-puts c =
    puts_then c.put_name.ensures.puts
    (puts_then c.put_phrase.ensures.puts (puts_then c.put_decimal.ensures.puts (puts_then c.put_phrase-2.ensures.puts c.put_reason.ensures.puts)))
