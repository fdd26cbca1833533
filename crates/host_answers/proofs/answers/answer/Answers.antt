use Rattle.std.proofs.Common.{rules, refl}
use Rattle.host_api.specs.declared.bodies.Ask.TheVariants as ask
use Rattle.host_answers.proofs.Answering.{after_look, no_look}
use Rattle.host_answers.proofs.answers.answer.Goals as goal

pub returns-then-is_err-clause-by : goal.returns-then-is_err-clause-by
returns-then-is_err-clause-by g c =
    no_look g.H.House.calls g.H.Holder.gave g.H.Holder.failed c.args.house.now c.look.new.self c.look.new.self c.args.head.now c.args.body.now c.in-Ok.ask c.look.result _
    (search rules) c.look.ensures (search rules) c.out_of_memory.ensures

pub returns-then-is_err-clause-replied : goal.returns-then-is_err-clause-replied
returns-then-is_err-clause-replied g c =
    g.met.H.House.told c.args.house.now c.look.new.self c.args.head.now c.args.body.now _ (returns-then-is_err-clause-by g c)

pub returns-then-is_err-clause-grows : goal.returns-then-is_err-clause-grows
returns-then-is_err-clause-grows g c =
    g.met.H.House.grew c.args.house.now c.look.new.self c.args.head.now c.args.body.now _ (returns-then-is_err-clause-by g c)

pub returns-in-Read-clause-by : goal.returns-in-Read-clause-by
returns-in-Read-clause-by g c =
    after_look g.H.House.calls g.H.Holder.gave g.H.Holder.failed c.args.house.now c.look.new.self c.read.new.house c.args.head.now c.args.body.now
    (ask.Read c.in-Read.site c.in-Read.version c.in-Read.path) c.look.result _ (search rules) c.look.ensures (search rules) c.read.ensures

pub returns-in-Read-clause-replied : goal.returns-in-Read-clause-replied
returns-in-Read-clause-replied g c =
    g.met.H.House.told c.args.house.now c.read.new.house c.args.head.now c.args.body.now _ (returns-in-Read-clause-by g c)

pub returns-in-Read-clause-grows : goal.returns-in-Read-clause-grows
returns-in-Read-clause-grows g c =
    g.met.H.House.grew c.args.house.now c.read.new.house c.args.head.now c.args.body.now _ (returns-in-Read-clause-by g c)

pub returns-in-Command-clause-by : goal.returns-in-Command-clause-by
returns-in-Command-clause-by g c =
    after_look g.H.House.calls g.H.Holder.gave g.H.Holder.failed c.args.house.now c.look.new.self c.change.new.house c.args.head.now c.args.body.now
    (ask.Command c.in-Command.command) c.look.result _ (search rules) c.look.ensures (search rules) c.change.ensures

pub returns-in-Command-clause-replied : goal.returns-in-Command-clause-replied
returns-in-Command-clause-replied g c =
    g.met.H.House.told c.args.house.now c.change.new.house c.args.head.now c.args.body.now _ (returns-in-Command-clause-by g c)

pub returns-in-Command-clause-grows : goal.returns-in-Command-clause-grows
returns-in-Command-clause-grows g c =
    g.met.H.House.grew c.args.house.now c.change.new.house c.args.head.now c.args.body.now _ (returns-in-Command-clause-by g c)

pub returns-in-Undo-clause-by : goal.returns-in-Undo-clause-by
returns-in-Undo-clause-by g c =
    after_look g.H.House.calls g.H.Holder.gave g.H.Holder.failed c.args.house.now c.look.new.self c.undo.new.house c.args.head.now c.args.body.now
    (ask.Undo c.in-Undo.site c.in-Undo.change) c.look.result _ (search rules) c.look.ensures (search rules) c.undo.ensures

pub returns-in-Undo-clause-replied : goal.returns-in-Undo-clause-replied
returns-in-Undo-clause-replied g c =
    g.met.H.House.told c.args.house.now c.undo.new.house c.args.head.now c.args.body.now _ (returns-in-Undo-clause-by g c)

pub returns-in-Undo-clause-grows : goal.returns-in-Undo-clause-grows
returns-in-Undo-clause-grows g c =
    g.met.H.House.grew c.args.house.now c.undo.new.house c.args.head.now c.args.body.now _ (returns-in-Undo-clause-by g c)

pub returns-in-Changes-clause-by : goal.returns-in-Changes-clause-by
returns-in-Changes-clause-by g c =
    after_look g.H.House.calls g.H.Holder.gave g.H.Holder.failed c.args.house.now c.look.new.self c.look.new.self c.args.head.now c.args.body.now
    (ask.Changes c.in-Changes.site) c.look.result _ (search rules) c.look.ensures (search rules) (c.show_changes.ensures, refl)

pub returns-in-Changes-clause-replied : goal.returns-in-Changes-clause-replied
returns-in-Changes-clause-replied g c =
    g.met.H.House.told c.args.house.now c.look.new.self c.args.head.now c.args.body.now _ (returns-in-Changes-clause-by g c)

pub returns-in-Changes-clause-grows : goal.returns-in-Changes-clause-grows
returns-in-Changes-clause-grows g c =
    g.met.H.House.grew c.args.house.now c.look.new.self c.args.head.now c.args.body.now _ (returns-in-Changes-clause-by g c)

pub returns-in-Deploy-clause-by : goal.returns-in-Deploy-clause-by
returns-in-Deploy-clause-by g c =
    after_look g.H.House.calls g.H.Holder.gave g.H.Holder.failed c.args.house.now c.look.new.self c.look.new.self c.args.head.now c.args.body.now
    (ask.Deploy c.in-Deploy.deploy) c.look.result _ (search rules) c.look.ensures (search rules) c.show.ensures

pub returns-in-Deploy-clause-replied : goal.returns-in-Deploy-clause-replied
returns-in-Deploy-clause-replied g c =
    g.met.H.House.told c.args.house.now c.look.new.self c.args.head.now c.args.body.now _ (returns-in-Deploy-clause-by g c)

pub returns-in-Deploy-clause-grows : goal.returns-in-Deploy-clause-grows
returns-in-Deploy-clause-grows g c =
    g.met.H.House.grew c.args.house.now c.look.new.self c.args.head.now c.args.body.now _ (returns-in-Deploy-clause-by g c)

pub returns-in-RemoveDeploy-clause-by : goal.returns-in-RemoveDeploy-clause-by
returns-in-RemoveDeploy-clause-by g c =
    after_look g.H.House.calls g.H.Holder.gave g.H.Holder.failed c.args.house.now c.look.new.self c.remove_deploy.new.house c.args.head.now c.args.body.now
    (ask.RemoveDeploy c.in-RemoveDeploy.deploy) c.look.result _ (search rules) c.look.ensures (search rules) c.remove_deploy.ensures

pub returns-in-RemoveDeploy-clause-replied : goal.returns-in-RemoveDeploy-clause-replied
returns-in-RemoveDeploy-clause-replied g c =
    g.met.H.House.told c.args.house.now c.remove_deploy.new.house c.args.head.now c.args.body.now _ (returns-in-RemoveDeploy-clause-by g c)

pub returns-in-RemoveDeploy-clause-grows : goal.returns-in-RemoveDeploy-clause-grows
returns-in-RemoveDeploy-clause-grows g c =
    g.met.H.House.grew c.args.house.now c.remove_deploy.new.house c.args.head.now c.args.body.now _ (returns-in-RemoveDeploy-clause-by g c)

pub returns-in-Cancel-clause-by : goal.returns-in-Cancel-clause-by
returns-in-Cancel-clause-by g c =
    after_look g.H.House.calls g.H.Holder.gave g.H.Holder.failed c.args.house.now c.look.new.self c.cancel.new.house c.args.head.now c.args.body.now
    (ask.Cancel c.in-Cancel.deploy) c.look.result _ (search rules) c.look.ensures (search rules) c.cancel.ensures

pub returns-in-Cancel-clause-replied : goal.returns-in-Cancel-clause-replied
returns-in-Cancel-clause-replied g c =
    g.met.H.House.told c.args.house.now c.cancel.new.house c.args.head.now c.args.body.now _ (returns-in-Cancel-clause-by g c)

pub returns-in-Cancel-clause-grows : goal.returns-in-Cancel-clause-grows
returns-in-Cancel-clause-grows g c =
    g.met.H.House.grew c.args.house.now c.cancel.new.house c.args.head.now c.args.body.now _ (returns-in-Cancel-clause-by g c)

pub returns-in-Upload-clause-by : goal.returns-in-Upload-clause-by
returns-in-Upload-clause-by g c =
    after_look g.H.House.calls g.H.Holder.gave g.H.Holder.failed c.args.house.now c.look.new.self c.upload.new.house c.args.head.now c.args.body.now
    (ask.Upload c.in-Upload.deploy c.in-Upload.path) c.look.result _ (search rules) c.look.ensures (search rules) c.upload.ensures

pub returns-in-Upload-clause-replied : goal.returns-in-Upload-clause-replied
returns-in-Upload-clause-replied g c =
    g.met.H.House.told c.args.house.now c.upload.new.house c.args.head.now c.args.body.now _ (returns-in-Upload-clause-by g c)

pub returns-in-Upload-clause-grows : goal.returns-in-Upload-clause-grows
returns-in-Upload-clause-grows g c =
    g.met.H.House.grew c.args.house.now c.upload.new.house c.args.head.now c.args.body.now _ (returns-in-Upload-clause-by g c)
