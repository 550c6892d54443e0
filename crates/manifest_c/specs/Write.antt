-- What the manifest's writer gives C: the writer's answer as a reply, and its buffer.
use Rattle.std.specs.Prelude.{ℕ, List}
use Rattle.fields.specs.declared.Fields.{Fields}
use Rattle.manifest.specs.Writer.{Wrote, write_manifest}
use Rattle.twin.specs.Asked.{counted_reply, Said, answered}

abbrev pub wrote_out : Wrote → Said
wrote_out w = answered (counted_reply w.answer) w.buffer

unfoldable pub host_write : Fields → List ℕ → Said
host_write f buffer = wrote_out (write_manifest f buffer)
