use denote.Param.Send.{sendable}
use Rattle.dym_c.proofs.Sent.{object_sent}
use Rattle.dym_c.proofs.object.crosses.Goals as goal

pub c_handle-requires-send-T : goal.c_handle-requires-send-T
c_handle-requires-send-T c κs = search (sendable, object_sent)
