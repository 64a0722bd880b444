use Rattle.std.proofs.Common.{sym}
use Rattle.std.proofs.lemmas.List.{append-nil}
use Rattle.grpc_frame.specs.Split.{bytes_of}
use Rattle.grpc_frame.proofs.laws.written_frames.Goals as goal

pub returns : goal.returns
returns c frames fit = record {
  are = record { fit = fit; parts = sym (append-nil (bytes_of frames)) };
  ends = λ flag content rest begins. let none = begins.parts in cc;
}
