-- The bytes of two rows of one request, which docs/SHARING.md shows: a write of 201 by client 0, and scores 40 and 372 by client 1.
use Rattle.std.specs.Prelude.{◌^◌, ◌≡◌, refl, [], ◌∷◌}
use Rattle.chain.specs.Steps.{write, of_value, of_scores}
use Rattle.shared.specs.Shared.{step}
use Rattle.shared.specs.Rows.{bytes, score_bytes, rows_from, contents, table_of}

pub two-rows : table_of (record { id = 2 ^ 32; request = step (write (of_value 201)) 0 ∷ step (write (of_scores (40 ∷ 372 ∷ []))) 1 ∷ [] }) ≡
    (0 ∷ 0 ∷ 0 ∷ 1 ∷ 0 ∷ 0 ∷ 0 ∷ 0 ∷ 0 ∷ 0 ∷ 0 ∷ 0 ∷ 0 ∷ 0 ∷ 0 ∷ 0 ∷ 0 ∷ 0 ∷ 0 ∷ 0 ∷ 0 ∷ 0 ∷ 0 ∷ 8 ∷ 0 ∷ 0 ∷ 0 ∷ 0 ∷ 0 ∷ 0 ∷ 0 ∷ 0 ∷ 0 ∷ 0 ∷ 0 ∷ 0 ∷ 0 ∷ 0 ∷ 0 ∷ 201 ∷ []) ∷
    (0 ∷ 0 ∷ 0 ∷ 1 ∷ 0 ∷ 0 ∷ 0 ∷ 0 ∷ 0 ∷ 0 ∷ 0 ∷ 0 ∷ 0 ∷ 0 ∷ 0 ∷ 1 ∷ 0 ∷ 0 ∷ 0 ∷ 0 ∷ 0 ∷ 0 ∷ 0 ∷ 10 ∷ 0 ∷ 0 ∷ 0 ∷ 0 ∷ 0 ∷ 0 ∷ 0 ∷ 1 ∷ 40 ∷ 0 ∷ 116 ∷ 1 ∷ []) ∷ []
unfolding rows_from contents bytes score_bytes
two-rows = refl
