-- `put_decimal` meets its contract, by recursion on the number: each call is for a tenth of it.
use Rattle.std.proofs.Common.{◌+◌, ◌%◌, ◌++◌, [], ◌∷◌, arith}
use Rattle.text.specs.Puts.{Puts, Room, puts-none, puts_then, room-first, room_next}
use Rattle.text.specs.PutDecimalLaws.{before_last, before-none, before-more, then-last}
use Rattle.text.proofs.writer.Writer.+put_decimal.Goals as goal
use Rattle.text.proofs.writer.Writer.+put_decimal.Goals.{then-n-ge10, else-n-ge10}

pub put_decimal-requires : goal.put_decimal-requires
put_decimal-requires t c =
    let to = c.args.self.now in
    let all : Room to.text.now to.at (before_last c.args.n ++ (48 + c.args.n % 10) ∷ []) = rw (then-last c.args.n) at c.requires in
    (omega arith, rw (before-more c.args.n c.if-n-ge10.true) (room-first _ _ all))

pub put_byte-requires : goal.put_byte-requires
put_byte-requires t c =
    let to = c.args.self.now in
    let all : Room to.text.now to.at (before_last c.args.n ++ (48 + c.args.n % 10) ∷ []) = rw (then-last c.args.n) at c.requires in
    let first : Puts to.text.now to.at (before_last c.args.n) c.if-n-ge10.self.text.now c.if-n-ge10.self.at =
    elim c.if-n-ge10.branch [
      | then-n-ge10 w ↦ rw (w.self-is, ← before-more c.args.n w.if-n-ge10.true) w.put_decimal.ensures.puts
      | else-n-ge10 w ↦ rw (w.self-is, ← before-none c.args.n w.if-n-ge10.false) (puts-none to.text.now to.at)
    ] in
    rw c.digit.ensures (room_next first _ all)

pub returns-clause-puts : goal.returns-clause-puts
returns-clause-puts t c =
    let to = c.args.self.now in
    let first : Puts to.text.now to.at (before_last c.args.n) c.if-n-ge10.self.text.now c.if-n-ge10.self.at =
    elim c.if-n-ge10.branch [
      | then-n-ge10 w ↦ rw (w.self-is, ← before-more c.args.n w.if-n-ge10.true) w.put_decimal.ensures.puts
      | else-n-ge10 w ↦ rw (w.self-is, ← before-none c.args.n w.if-n-ge10.false) (puts-none to.text.now to.at)
    ] in
    rw (then-last c.args.n) (puts_then first (rw c.digit.ensures at c.put_byte.ensures.puts))
