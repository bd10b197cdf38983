-- What a call from C leaves. Definitions only.
use Rattle.protocol.specs.Protocol as protocol
use Rattle.optim_lists.specs.Lists.{Lists}
use Rattle.c_api.specs.declared.reply.Reply.{Reply}
use Rattle.c_api.specs.Reply.{reply_as}

-- its reply as C reads it, and the record's lists
abbrev pub handed_of : protocol.Reply × Lists → Reply × Lists
handed_of a = (reply_as a.0, a.1)
