-- Any two names are apart, and any two reasons, tested once by computing.
use Rattle.std.specs.Prelude.{◌≡◌, refl, true}
use Rattle.sentences.specs.Phrases.{step_names, reasons}
use Rattle.sentences.specs.ApartLaws.{apart, apart_from_all, all_apart}

pub names_apart : all_apart step_names ≡ true
unfolding apart apart_from_all all_apart step_names
names_apart = refl

pub reasons-apart : all_apart reasons ≡ true
unfolding apart apart_from_all all_apart reasons
reasons-apart = refl
