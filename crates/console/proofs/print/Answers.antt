-- The text has N bytes, and what is put needs no more.
use Rattle.std.proofs.Common.{ℕ, arith, refl, subst, OnOk}
use Rattle.std.proofs.lemmas.List.{length-replicate}
use Rattle.std.specs.Io.KnownBytes.{Appends}
use Rattle.text.specs.Lent.{within}
use Rattle.console.proofs.Room.{not-short, all-taken}
use Rattle.console.proofs.print.Goals as goal

pub shared_whole_as_front-write_all : goal.shared_whole_as_front-write_all
shared_whole_as_front-write_all g c =
    let put = c.requires.fits.2 _ c.put.result _ (record { shown = _; shows = refl; left = _; met = c.put.ensures; leaves = refl }) in
    (within _ _ _ c.requires.fits.1 _ _ put.0 c.in-Ok.is, omega arith)

pub unreachable-requires : goal.unreachable-requires
unreachable-requires g c =
    let put = c.requires.fits.2 _ c.put.result _ (record { shown = _; shows = refl; left = _; met = c.put.ensures; leaves = refl }) in
    not-short _ _ _ (omega (arith, length-replicate {A = ℕ} g.row.N 0)) _ put.0 c.in-Err.is

pub returns : goal.returns
returns g c = λ whole puts.
    let put = puts _ c.put.result _ (record { shown = _; shows = refl; left = _; met = c.put.ensures; leaves = refl }) in
    subst (λ xs. OnOk c.write_all.result (Appends (g.W.Write.contents c.args.writer.now) (g.W.Write.contents c.write_all.new.self) xs))
    (all-taken _ _ _ (omega (arith, length-replicate {A = ℕ} g.row.N 0)) _ _ _ put.0 c.in-Ok.is put.1)
    c.write_all.ensures.bytes
