-- What a controller does next, by its phase and what it has seen: the table that `decide` is proved against.
use Rattle.std.specs.Prelude.{ℕ, cond}
use Rattle.checks.specs.Test.{at_most, same, test}
use Rattle.sharing.specs.declared.controller.Phase.{Phase}
use Rattle.sharing.specs.declared.controller.Phase.TheVariants as phases
use Rattle.sharing.specs.declared.controller.Seen.{Seen}
use Rattle.sharing.specs.declared.controller.Seen.TheVariants.{Asked, Read, Next, Placed, Accepted, Refused, Silence, Stop, OtherHistory}
use Rattle.sharing.specs.declared.controller.Act.{Act}
use Rattle.sharing.specs.declared.controller.Act.TheVariants as acts
use Rattle.sharing.specs.declared.controller.Turn.{Turn}

abbrev pub to : Phase → Act → Turn
to p a = record { phase = p; act = a }

abbrev pub when_idle : Seen → Turn
when_idle Asked = to phases.Asked acts.Try
when_idle (Read n) = to phases.Idle acts.Nothing
when_idle (Next n there) = to phases.Idle acts.Nothing
when_idle (Placed n place) = to phases.Idle acts.Nothing
when_idle (Accepted id) = to phases.Idle acts.Nothing
when_idle Refused = to phases.Idle acts.Nothing
when_idle Silence = to phases.Idle acts.Nothing
when_idle Stop = to phases.Idle acts.Nothing
when_idle OtherHistory = to phases.Halted acts.Nothing

-- An id of 0 is none, and without an id nothing is sent.
abbrev pub when_accepted : ℕ → Turn
when_accepted id = cond (test (same id 0)) (to phases.Idle acts.Withdraw) (to (phases.Waiting id) acts.Append)

abbrev pub when_asked : Seen → Turn
when_asked Asked = to phases.Asked acts.Read
when_asked (Read n) = to phases.Current acts.Try
when_asked (Next n there) = to phases.Asked acts.Read
when_asked (Placed n place) = to phases.Asked acts.Read
when_asked (Accepted id) = when_accepted id
when_asked Refused = to phases.Asked acts.Read
when_asked Silence = to phases.Asked acts.Read
when_asked Stop = to phases.Idle acts.Withdraw
when_asked OtherHistory = to phases.Halted acts.Withdraw

abbrev pub when_current : Seen → Turn
when_current Asked = to phases.Current acts.Try
when_current (Read n) = to phases.Current acts.Try
when_current (Next n there) = to phases.Current acts.Try
when_current (Placed n place) = to phases.Current acts.Try
when_current (Accepted id) = when_accepted id
when_current Refused = to phases.Idle acts.Refuse
when_current Silence = to phases.Current acts.Try
when_current Stop = to phases.Idle acts.Withdraw
when_current OtherHistory = to phases.Halted acts.Withdraw

abbrev pub when_next : ℕ → ℕ → Turn
when_next id there = cond (test (same there id)) (to phases.Idle acts.Tell) (to (phases.Waiting id) acts.Read)

-- What is done where rows came in between.
abbrev pub when_between : Act
when_between = acts.Read

abbrev pub when_placed : ℕ → ℕ → ℕ → Turn
when_placed id n place = cond (test (at_most place n)) (to phases.Idle acts.Tell) (to (phases.Waiting id) when_between)

abbrev pub when_waiting : ℕ → Seen → Turn
when_waiting id Asked = to (phases.Waiting id) acts.Append
when_waiting id (Read n) = to (phases.Waiting id) acts.Append
when_waiting id (Next n there) = when_next id there
when_waiting id (Placed n place) = when_placed id n place
when_waiting id (Accepted i) = to (phases.Waiting id) acts.Append
when_waiting id Refused = to (phases.Waiting id) acts.Append
when_waiting id Silence = to (phases.Waiting id) acts.Append
when_waiting id Stop = to phases.Idle acts.Unknown
when_waiting id OtherHistory = to phases.Halted acts.Unknown

-- It has seen another history, and does nothing until it starts again.
abbrev pub when_halted : Seen → Turn
when_halted Asked = to phases.Halted acts.Withdraw
when_halted (Read n) = to phases.Halted acts.Nothing
when_halted (Next n there) = to phases.Halted acts.Nothing
when_halted (Placed n place) = to phases.Halted acts.Nothing
when_halted (Accepted id) = to phases.Halted acts.Nothing
when_halted Refused = to phases.Halted acts.Nothing
when_halted Silence = to phases.Halted acts.Nothing
when_halted Stop = to phases.Halted acts.Nothing
when_halted OtherHistory = to phases.Halted acts.Nothing

abbrev pub turn : Phase → Seen → Turn
turn phases.Idle o = when_idle o
turn phases.Asked o = when_asked o
turn phases.Current o = when_current o
turn (phases.Waiting id) o = when_waiting id o
turn phases.Halted o = when_halted o
