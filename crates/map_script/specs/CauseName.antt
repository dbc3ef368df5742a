-- How causes are written.
use Rattle.std.specs.Prelude.{ℕ, List, codes}
use Rattle.map_script.specs.declared.refusal.Cause.{Cause}
use Rattle.map_script.specs.declared.refusal.Cause.TheVariants.{Byte, Version, Map, Gen, Number, Cpu, Verb, Flag, Digits, Length, Missing, Extra, Calls, Room, Phases, Target, Copier}

abbrev pub cause_name : Cause → List ℕ
cause_name Byte = codes "byte"
cause_name Version = codes "version"
cause_name Map = codes "map"
cause_name Gen = codes "gen"
cause_name Number = codes "number"
cause_name Cpu = codes "cpu"
cause_name Verb = codes "verb"
cause_name Flag = codes "flag"
cause_name Digits = codes "digits"
cause_name Length = codes "length"
cause_name Missing = codes "missing"
cause_name Extra = codes "extra"
cause_name Calls = codes "calls"
cause_name Room = codes "room"
cause_name Phases = codes "phases"
cause_name Target = codes "target"
cause_name Copier = codes "copier"
