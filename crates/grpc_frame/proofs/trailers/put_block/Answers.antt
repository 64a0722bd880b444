use Rattle.std.proofs.Common.{codes, decimal}
use Rattle.grpc_frame.specs.Code.{code_number}
use Rattle.grpc_frame.specs.Trailers.{header_line}
use Rattle.grpc_frame.proofs.Parts.{joined}
use Rattle.grpc_frame.proofs.trailers.put_block.Goals as goal

pub returns-clause-items : goal.returns-clause-items
returns-clause-items c =
    joined _ _ _ (header_line (codes "grpc-status:") (decimal (code_number c.args.code))) _ (rw (← c.digits.ensures.value) c.put_line.ensures.items) c.put_text.ensures.items
