-- The promises of RowsPromise hold.
use Rattle.std.specs.Prelude.{ℕ, zero, suc, ◌+◌, ◌*◌, ◌/◌, ◌%◌, ◌^◌, ◌<◌, ◌≡◌, refl, List, [], ◌∷◌, ◌++◌, ◌⊎◌, length, take}
use Rattle.std.proofs.Common.{arith, sym, ap, subst, ◌∙◌, length-append}
use Rattle.std.proofs.Math.Option.{Option, none, some}
use Rattle.std.proofs.lemmas.List.{length-map}
use Rattle.chain.specs.Steps.{name, become, abdicate, fetch, close_last, finish, create, append, close_own, write, of_value, of_scores}
use Rattle.sharing.specs.Places.{At}
use Rattle.sharing.proofs.Laws.Places.{at_map}
use Rattle.sharing.specs.Sharing.{Row, row, Telling, State, Reachable}
use Rattle.sharing.specs.Losing.{Contents, table, Collision}
use Rattle.sharing.proofs.LosingTheorem.{told-is-kept}
use Rattle.shared.specs.Shared.{Kept, Change, step, set_mark, drop_mark, set_rights, run_log, changes}
use Rattle.shared.specs.Rows.{TableRow, rows_from, bytes, number_from, number, score_bytes, scores, row_kind, row_client, row_input, contents, table_of, change_of, with_change, row_of, Short, ChangeFits, RowFits}
use Rattle.shared.specs.RowsPromise.{RowsReadBack, StepsAreKept}

-- A number comes back from its bytes, and scores from theirs.
number-last : (n : ℕ) (bs : List ℕ) (b : ℕ) → number_from n (bs ++ (b ∷ [])) ≡ number_from n bs * 256 + b
unfolding number_from
number-last n [] b = refl
number-last n (x ∷ bs) b = number-last (n * 256 + x) bs b

from_bytes : (k n : ℕ) → n < 256 ^ k → number (bytes k n) ≡ n
unfolding bytes number_from
from_bytes zero n h = omega arith
from_bytes (suc k) n h = number-last 0 (bytes k (n / 256)) (n % 256) ∙ ap (λ (m : ℕ). m * 256 + n % 256) (from_bytes k (n / 256) (omega (arith, h))) ∙ whole
  where
    whole : n / 256 * 256 + n % 256 ≡ n
    whole = omega arith

word : (n : ℕ) → n < 2 ^ 64 → number (bytes 8 n) ≡ n
word n h = from_bytes 8 n (omega arith)

from-scores : (qs : List ℕ) → Short qs → scores (score_bytes qs) ≡ qs
unfolding scores score_bytes
from-scores [] h = refl
from-scores (q ∷ qs) h = ap (λ (n : ℕ). n ∷ scores (score_bytes qs)) whole ∙ ap (λ (l : List ℕ). q ∷ l) (from-scores qs h.1)
  where
    whole : q / 256 % 256 * 256 + q % 256 ≡ q
    whole = omega (arith, h.0)

-- A step comes back from its kind, client and input.
abbrev Back : Change → Type 0
Back x = change_of (row_kind x) (row_client x) (row_input x) ≡ some x

change-back : (x : Change) → ChangeFits x → Back x
change-back (step name c) h = refl
change-back (step become c) h = refl
change-back (step abdicate c) h = refl
change-back (step fetch c) h = refl
change-back (step close_last c) h = refl
change-back (step finish c) h = refl
change-back (step create c) h = refl
change-back (step append c) h = refl
change-back (step (write (of_value v)) c) h = ap (λ (n : ℕ). some (step (write (of_value n)) c)) (word v h.1)
change-back (step (write (of_scores qs)) c) h = ap (λ (l : List ℕ). some (step (write (of_scores l)) c)) (from-scores qs h.1)
change-back (step close_own c) h = refl
change-back (set_mark n) h = ap (λ (m : ℕ). some (set_mark m)) (word n h)
change-back (drop_mark n) h = ap (λ (m : ℕ). some (drop_mark m)) (word n h)
change-back (set_rights c w) h = ap (λ (m : ℕ). some (set_rights c m)) (word w h.1)

small-kind : (x : Change) → row_kind x < 2 ^ 64
small-kind (step name c) = omega arith
small-kind (step become c) = omega arith
small-kind (step abdicate c) = omega arith
small-kind (step fetch c) = omega arith
small-kind (step close_last c) = omega arith
small-kind (step finish c) = omega arith
small-kind (step create c) = omega arith
small-kind (step append c) = omega arith
small-kind (step (write (of_value v)) c) = omega arith
small-kind (step (write (of_scores qs)) c) = omega arith
small-kind (step close_own c) = omega arith
small-kind (set_mark n) = omega arith
small-kind (drop_mark n) = omega arith
small-kind (set_rights c w) = omega arith

small-client : (x : Change) → ChangeFits x → row_client x < 2 ^ 64
small-client (step k c) h = h.0
small-client (set_mark n) h = omega arith
small-client (drop_mark n) h = omega arith
small-client (set_rights c w) h = h.0

-- The four numbers stand in the first 32 bytes, and the input after them.
parts : (r : TableRow) → row_of (contents r) ≡ with_change (number (bytes 8 r.id)) (number (bytes 8 r.index))
    (change_of (number (bytes 8 (row_kind r.change))) (number (bytes 8 (row_client r.change))) (row_input r.change))
unfolding row_of contents bytes
parts r = refl

row_back : (r : TableRow) → RowFits r → row_of (contents r) ≡ some r
row_back r h = parts r ∙ rw (word r.id h.0, word r.index h.1, word (row_kind r.change) (small-kind r.change), word (row_client r.change) (small-client r.change h.2), change-back r.change h.2)

or-other : TableRow → Option TableRow → TableRow
or-other r none = r
or-other r (some q) = q

pub rows-read-back : RowsReadBack
unfolding or-other
rows-read-back = record {
  back = row_back;
  one = λ r q h k e. ap (or-other r) (sym (row_back r h) ∙ ap row_of e ∙ row_back q k);
}

-- The rows of the table are as many as the single steps.
from-length : (id index : ℕ) (xs : List Change) → length (rows_from id index xs) ≡ length xs
unfolding rows_from
from-length id index [] = refl
from-length id index (x ∷ xs) = ap suc (from-length id (index + 1) xs)

table-length : (rows : List (Row run_log)) → length (table table_of rows) ≡ length (changes rows)
unfolding table changes
table-length [] = refl
table-length (r ∷ rows) = omega (
  arith,
  length-append (table_of r) (table table_of rows),
  length-map (rows_from r.id 0 r.request) contents,
  from-length r.id 0 r.request,
  length-append r.request (changes rows),
  table-length rows,
)

at_from : (id index : ℕ) (xs : List Change) (j : ℕ) (x : Change) → At xs j x → At (rows_from id index xs) j (record { id = id; index = index + j; change = x })
unfolding rows_from
at_from id index [] j x h = absurd h
at_from id index (y ∷ xs) zero x h = ap (λ (z : Change). record { id = id; index = index; change = z }) h ∙ ap (λ (n : ℕ). record { id = id; index = n; change = x }) (none_more index)
  where
    none_more : (n : ℕ) → n ≡ n + 0
    none_more n = omega arith
at_from id index (y ∷ xs) (suc j) x h = subst (λ (n : ℕ). At (rows_from id (index + 1) xs) j (record { id = id; index = n; change = x })) (one_more index j) (at_from id (index + 1) xs j x h)
  where
    one_more : (n j : ℕ) → n + 1 + j ≡ n + suc j
    one_more n j = omega arith

pub steps-are-kept : (h : ℕ → Contents → ℕ) (first : ℕ) (base : Kept) (s : State run_log) → Reachable {M = run_log} base s → StepsAreKept h first base s
steps-are-kept h first base s r = record {
  stands = λ c k i w engine o j x a e. subst
      (λ (n : ℕ). At engine (n + j) (contents (record { id = k.append.id; index = j; change = x })) ⊎ Collision h)
      (table-length (take k.place s.rows))
      ((told-is-kept table_of h first base s r).stands c k i w engine o j (contents (record { id = k.append.id; index = j; change = x })) (among k j x e.change));
}
  where
    nothing-before : (j : ℕ) → 0 + j ≡ j
    nothing-before j = omega arith

    among : (k : Telling run_log) (j : ℕ) (x : Change) → At k.append.asking.request j x
        → At (table_of (row k.append)) j (contents (record { id = k.append.id; index = j; change = x }))
    among k j x there = at_map contents (rows_from k.append.id 0 k.append.asking.request) j (record { id = k.append.id; index = j; change = x })
        (subst (λ (n : ℕ). At (rows_from k.append.id 0 k.append.asking.request) j (record { id = k.append.id; index = n; change = x })) (nothing-before j)
        (at_from k.append.id 0 k.append.asking.request j x there))
