-- Words to say which readings and texts of scripts are refused.
use Rattle.std.specs.Prelude.{◌≡◌, ℕ, [], ◌∷◌, None}
use Rattle.map_types.specs.declared.call.Call.{Call}
use Rattle.map_types.specs.declared.call.Verb.{Verb}
use Rattle.map_types.specs.declared.call.Verb.TheVariants.{Update, Delete}
use Rattle.map_types.specs.declared.kind.Side.TheVariants.{Prog}
use Rattle.map_script.specs.declared.script.Script.{Script}

-- a call on CPU 0
abbrev pub call_of : Verb → Call
call_of verb = record { cpu = 0; verb = verb }

-- an update of key 01 with value 02, which may overwrite: its flags are BPF_ANY
abbrev pub update_any : Call
update_any = call_of (Update Prog 0 (1 ∷ []) (2 ∷ []))

abbrev pub delete : ℕ → Call
delete key = call_of (Delete (key ∷ []))

-- the script has three calls, each in a phase of its own
pub record IsInThreePhases (script : Script) : Type 0 where
  pub no_spec : script.spec ≡ None
  pub cuts : script.cuts ≡ 1 ∷ 2 ∷ []
  pub calls : script.calls ≡ delete 1 ∷ delete 2 ∷ delete 3 ∷ []
