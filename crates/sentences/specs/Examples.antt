-- Some sentences: of the first step, of one with a name of two words, and of the largest client. Some texts that are read, and that are none.
use Rattle.std.specs.Prelude.{◌≡◌, refl, None}
use Rattle.text.specs.Bytes.{bytes}
use Rattle.text.specs.Decimal.{decimal, digits, is_digit, all_digits, starts, value, numeral_of}
use Rattle.text.specs.Find.{index_of}
use Rattle.text.specs.Phrase.{same_bytes}
use Rattle.sentences.specs.Phrases.{step_names, reasons, step_name, reason}
use Rattle.sentences.specs.Sentences.{sentence}
use Rattle.sentences.specs.Read.{begins, behind, says, read_sentence}

first_step : sentence 0 0 4 ≡ bytes "name of client 0: the client is the named leader"
unfolding sentence step_name step_names reason reasons decimal digits
first_step = refl

two-words : sentence 4 7 7 ≡ bytes "close last of client 7: the client does not lead"
unfolding sentence step_name step_names reason reasons decimal digits
two-words = refl

finish : sentence 5 10 9 ≡ bytes "finish of client 10: the client remembers what cannot be"
unfolding sentence step_name step_names reason reasons decimal digits
finish = refl

last : sentence 9 255 28 ≡ bytes "close own of client 255: there is no sentence for these numbers"
unfolding sentence step_name step_names reason reasons decimal digits
last = refl

read : read_sentence (bytes "close own of client 255: the log is full") ≡ says 9 255 13
unfolding read_sentence behind begins same_bytes index_of numeral_of starts all_digits is_digit value step_name step_names reasons
read = refl

client-too-large : read_sentence (bytes "close own of client 256: the log is full") ≡ None
unfolding read_sentence behind begins same_bytes index_of numeral_of starts all_digits is_digit value step_name step_names reasons
client-too-large = refl

leading-zero : read_sentence (bytes "write of client 07: the log is full") ≡ None
unfolding read_sentence behind begins same_bytes index_of numeral_of starts all_digits is_digit value step_name step_names reasons
leading-zero = refl

no-client : read_sentence (bytes "write of client : the log is full") ≡ None
unfolding read_sentence behind begins same_bytes index_of numeral_of starts all_digits is_digit value step_name step_names reasons
no-client = refl

bytes_after : read_sentence (bytes "write of client 7: the log is full ") ≡ None
unfolding read_sentence behind begins same_bytes index_of numeral_of starts all_digits is_digit value step_name step_names reasons
bytes_after = refl

cut : read_sentence (bytes "write of client 7: the log is ful") ≡ None
unfolding read_sentence behind begins same_bytes index_of numeral_of starts all_digits is_digit value step_name step_names reasons
cut = refl

nothing : read_sentence (bytes "") ≡ None
unfolding read_sentence behind begins same_bytes index_of numeral_of starts all_digits is_digit value step_name step_names reasons
nothing = refl
