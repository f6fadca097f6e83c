use Rattle.std.proofs.Common.{refl}
use Rattle.frames.specs.Stores.{frames_view}
use Rattle.frames.proofs.Views.{drops}
use Rattle.frames.proofs.frame_store.FramesColumnStore.drop_column.Goals as goal

pub returns : goal.returns
returns g c =
    let K = g.X.Symbol in
    record { answer = drops (frames_view K.zero K.width K.symbol) c.args.self.now c.mark.new.self c.args.column c.mark.result c.mark.ensures.answer; bytes = c.mark.ensures.bytes; stays = c.mark.ensures.stays refl }
