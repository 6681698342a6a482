-- The grammar of a line of the session: a letter, a space, a client and for W a space and a value.
use Rattle.std.specs.Prelude.{ℕ, suc, Bool, cond, List, get_or, take, drop, eqb, ltb, Option, Some, None}
use Prim.Native.Char.{Char, code}
use Rattle.text.specs.Decimal.{numeral_of}
use Rattle.text.specs.Find.{index_of}
use Rattle.chain.specs.declared.kind.Kind.{Kind}
use Rattle.chain.specs.declared.kind.Kind.TheVariants.{Name, Become, Abdicate, Fetch, CloseLast, Finish, Create, Append, CloseOwn}
use Rattle.dispatch.specs.declared.Step.{Step}
use Rattle.dispatch.specs.Dispatch.{bringing_nothing, writing}

abbrev pub is : ℕ → Char → Bool
is byte c = eqb byte (code c)

-- The client of a line is a number below this.
abbrev pub client_numbers : ℕ
client_numbers = 256

-- What a line asks for: a step, or none where it is a bad line.
abbrev pub Request : Type 0
Request = Option Step

unfoldable pub with_client : ℕ → Request → Request
with_client c r = cond (ltb c client_numbers) r None

unfoldable pub letter_kind : ℕ → Option Kind
letter_kind letter =
    cond (is letter "N") (Some Name) (
    cond (is letter "B") (Some Become) (
    cond (is letter "A") (Some Abdicate) (
    cond (is letter "F") (Some Fetch) (
    cond (is letter "L") (Some CloseLast) (
    cond (is letter "K") (Some Finish) (
    cond (is letter "C") (Some Create) (
    cond (is letter "P") (Some Append) (
    cond (is letter "O") (Some CloseOwn) None))))))))

abbrev pub kind_step : ℕ → Option Kind → Request
kind_step c (Some k) = with_client c (Some (bringing_nothing c k))
kind_step c None = None

abbrev pub client_step : ℕ → Option ℕ → Request
client_step letter (Some c) = kind_step c (letter_kind letter)
client_step letter None = None

abbrev pub write_step : Option ℕ → Option ℕ → Request
write_step (Some c) (Some v) = with_client c (Some (writing c v))
write_step (Some c) None = None
write_step None _ = None

-- The client's numeral ends at the first space. Where there is none, the value's is empty, which is no numeral.
unfoldable pub parse_write : List ℕ → Request
parse_write bs = write_step (numeral_of (take (index_of (code " ") bs) bs)) (numeral_of (drop (suc (index_of (code " ") bs)) bs))

-- Byte 0 stands for a byte that is not there: it is no letter and no space.
unfoldable pub parse_line : List ℕ → Request
parse_line bs =
    cond (is (get_or bs 1 0) " ")
    (cond (is (get_or bs 0 0) "W") (parse_write (drop 2 bs)) (client_step (get_or bs 0 0) (numeral_of (drop 2 bs))))
    None
