-- Bytes put into a text from a place on, piece by piece.
use Rattle.std.specs.Prelude.{ℕ, ◌+◌, ◌≤◌, ◌≡◌, refl, List, [], ◌++◌, length}
use Rattle.std.proofs.Common.{arith, sym, ap, ◌∙◌, length-append}
use Rattle.std.proofs.lemmas.List.Edits.{sets}
use Rattle.std.proofs.Math.Seq.{length-sets}
use Rattle.text.specs.WriteLaws.{sets-++}

-- The text afterwards, and where the bytes end in it.
pub record Puts (text : List ℕ) (at : ℕ) (bytes after : List ℕ) (end : ℕ) : Type 0 where
  pub ends : end ≡ at + length bytes
  pub stored : after ≡ sets text at bytes

-- Room for bytes from a place on.
pub record Room (text : List ℕ) (at : ℕ) (bytes : List ℕ) : Type 0 where
  pub fits : at + length bytes ≤ length text

pub room-first : {text : List ℕ} {at : ℕ} (a b : List ℕ) → Room text at (a ++ b) → Room text at a
room-first a b h = record { fits = omega (arith, h.fits, length-append a b) }

pub puts-length : {text bytes after : List ℕ} {at end : ℕ} → Puts text at bytes after end → length after ≡ length text
puts-length {text} {bytes} {after} {at} p = ap (length {A = ℕ}) p.stored ∙ length-sets text at bytes

-- No piece.
pub puts-none : (text : List ℕ) (at : ℕ) → Puts text at [] text at
puts-none text at = record { ends = omega arith; stored = refl }

-- A piece, and then another.
module _ {text mid a : List ℕ} {at m : ℕ} (p : Puts text at a mid m) where
  pub room_next : (b : List ℕ) → Room text at (a ++ b) → Room mid m b
  room_next b h = record { fits = omega (arith, h.fits, length-append a b, p.ends, puts-length p) }

  pub puts_then : {b after : List ℕ} {end : ℕ} → Puts mid m b after end → Puts text at (a ++ b) after end
  puts_then {b} q = record {
    ends = omega (arith, p.ends, q.ends, length-append a b);
    stored = q.stored
        ∙ ap (λ (l : List ℕ). sets l m b) p.stored
        ∙ ap (λ (k : ℕ). sets (sets text at a) k b) p.ends
        ∙ sets-++ text at a b;
  }

-- Of all bytes to be put from a place on, those that are left, and where they go.
pub record Left (text : List ℕ) (at : ℕ) (all mid : List ℕ) (m : ℕ) (rest : List ℕ) : Type 0 where
  pub ends : at + length all ≡ m + length rest
  pub stored : sets text at all ≡ sets mid m rest

pub left-all : (text : List ℕ) (at : ℕ) (all : List ℕ) → Left text at all text at all
left-all text at all = record { ends = refl; stored = refl }

module _ {text all mid rest : List ℕ} {at m : ℕ} (l : Left text at all mid m rest) where
  pub left-length : length mid ≡ length text
  left-length = sym (length-sets mid m rest) ∙ sym (ap (length {A = ℕ}) l.stored) ∙ length-sets text at all

  pub left-room : Room text at all → Room mid m rest
  left-room h = record { fits = omega (arith, h.fits, l.ends, left-length) }

  pub left-turn : {a b after : List ℕ} {end : ℕ} → rest ≡ a ++ b → Puts mid m a after end → Left text at all after end b
  left-turn {a} {b} {after} {end} e p = record {
    ends = omega (arith, l.ends, ap (length {A = ℕ}) e, p.ends, length-append a b);
    stored = l.stored
        ∙ ap (sets mid m) e
        ∙ sym (sets-++ mid m a b)
        ∙ ap (λ (k : ℕ). sets (sets mid m a) k b) (sym p.ends)
        ∙ ap (λ (x : List ℕ). sets x end b) (sym p.stored);
  }

  pub left-last : {after : List ℕ} {end : ℕ} → Puts mid m rest after end → Puts text at all after end
  left-last p = record {
    ends = omega (arith, l.ends, p.ends);
    stored = p.stored ∙ sym l.stored;
  }

pub left-none : {text all after : List ℕ} {at end : ℕ} → Left text at all after end [] → Puts text at all after end
left-none l = record { ends = omega (arith, l.ends); stored = sym l.stored }
