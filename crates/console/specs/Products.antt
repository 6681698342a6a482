-- What a product says of an input, and that a writer got it.
use Rattle.std.specs.Prelude.{ℕ, ◌≡◌, List, IfSome, Result}
use Rattle.std.specs.declared.option.Option.{Option}
use Rattle.std.specs.Io.KnownBytes.{Appends}
use Rattle.text.specs.declared.lent.TextTooShort.{TextTooShort}
use Rattle.text.specs.Lent.{lent_answer, lent_text}
use Rattle.session.specs.Transcript.{transcript}
use Rattle.total.specs.Output.{output}
use Rattle.console.specs.declared.Product.{Product}
use Rattle.console.specs.declared.Product.TheVariants.{Transcript, Total}

abbrev pub product_text : Product → List ℕ → List ℕ
product_text Transcript input = transcript input
product_text Total input = output input

-- What puts a whole text into bytes that are lent: it answers as one that is refused fewer bytes than a limit, and leaves them so.
abbrev pub PutsWhole : (List ℕ → Result ℕ TextTooShort → List ℕ → Type 0) → ℕ → List ℕ → Type 0
PutsWhole put limit whole = (old : List ℕ) (r : Result ℕ TextTooShort) (new : List ℕ) → put old r new
    → (r ≡ lent_answer limit whole old) × (new ≡ lent_text limit whole old)

-- A writer's bytes grew by the product of an input. Where it is known what a reader had left, that is the input.
abbrev pub WritesProduct : Product → Option (List ℕ) → Option (List ℕ) → Option (List ℕ) → Type 0
WritesProduct product left old new = (input : List ℕ) × IfSome left (λ xs. input ≡ xs) × Appends old new (product_text product input)
