use Rattle.std.proofs.Common.{◌≡◌, Ok, ap, ◌∙◌}
use Rattle.std.proofs.lemmas.Result.{IfOk-weaker}
use Rattle.map_script.specs.Canonical.{canonical}
use Rattle.map_script.specs.Reading.{IsReadAs, read_as}
use Rattle.map_script.specs.declared.script.Form.TheVariants as forms
use Rattle.map_script.proofs.CopyRoundTrip.{copy-canonical}
use Rattle.map_script.proofs.RoundTrip.{read_as-canonical}
use Rattle.map_script.proofs.script.Script.text.Goals as goal

pub returns-clause-round_trip : goal.returns-clause-round_trip
returns-clause-round_trip c =
    let script = c.args.self.now in
    IfOk-weaker c.text_of.result (λ text. text.items ≡ canonical script) (λ text. IsReadAs forms.Calls script → read_as forms.Calls text.items ≡ Ok script)
    (λ text is read. ap (read_as forms.Calls) is ∙ read_as-canonical script read)
    c.text_of.ensures

pub returns-clause-copy_round_trip : goal.returns-clause-copy_round_trip
returns-clause-copy_round_trip c =
    let script = c.args.self.now in
    IfOk-weaker c.text_of.result (λ text. text.items ≡ canonical script) (λ text. IsReadAs forms.Copy script → read_as forms.Copy text.items ≡ Ok script)
    (λ text is read. ap (read_as forms.Copy) is ∙ copy-canonical script read)
    c.text_of.ensures
