-- The entries of the chain line, one after the other: what the loop over them meets.
use Rattle.std.specs.Prelude.{ℕ, ◌+◌, ◌<◌, ◌≤◌, ◌≡◌, List, [], ◌++◌, length, get_or, drop}
use Rattle.std.proofs.Common.{add-one, drop_of_length-le, drop-cons}
use Rattle.replies.specs.Replies.{entry_text, entries_text}

pub entries-turn : (words : List ℕ) (i : ℕ) → i < length words
    → entries_text (drop i words) ≡ entry_text (get_or words i 0) ++ entries_text (drop (i + 1) words)
unfolding entries_text
entries-turn words i l = rw (add-one i, drop-cons words i 0 l)

pub entries-end : (words : List ℕ) (i : ℕ) → length words ≤ i → entries_text (drop i words) ≡ []
unfolding entries_text
entries-end words i l = rw (drop_of_length-le words l)
